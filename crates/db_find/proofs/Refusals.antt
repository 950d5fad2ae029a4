-- Why a structured query is refused, step by step.
use Rattle.std.proofs.Common.{◌≡◌, ℕ, ◌+◌, ◌<◌, List, [], ◌∷◌, ◌++◌, length, drop, get_or, map, Option, Some, None, refl, sym, ap, subst, ◌∙◌}
use Rattle.std.proofs.lemmas.List.{at_drop_more}
use Rattle.std.specs.Prelude.{Err, IfSome}
use Rattle.std.specs.Option.{option_map, option_or}
use Rattle.st_parse.specs.declared.statements.Cond.{Cond}
use Rattle.st_parse.specs.declared.statements.OrderItem.{OrderItem}
use Rattle.tb_table.specs.declared.columns.Column.{Column}
use Rattle.cat_where.specs.declared.faults.WhereFault.{WhereFault}
use Rattle.cat_where.specs.declared.faults.WhereFault.TheVariants.{BadNumber}
use Rattle.cat_where.specs.declared.stages.Where.{Where}
use Rattle.cat_where.specs.Results.{verdict_of}
use Rattle.cat_where.specs.Verdicts.{Verdict, OutOfRange}
use Rattle.db_cond.specs.declared.faults.Fault.{Fault}
use Rattle.db_cond.specs.Faults.{Refusal, QueryNumber}
use Rattle.db_cond.specs.Refused.{refusal_of}
use Rattle.db_find.specs.declared.structured.Structured.{Structured}
use Rattle.db_find.specs.declared.structured.Structured.TheVariants.{Refused, Asks}
use Rattle.db_find.specs.Structured.{IsRefused, MeansStructured, columns_refusal, cond_refusal, first_refusal, item_refusal, structured_refusal, where_found}

-- the first of two lists is that of the first one, or else that of the second
first_refusal_of_both : (xs ys : List (Option Refusal)) → first_refusal (xs ++ ys) ≡ option_or (first_refusal xs) (first_refusal ys)
first_refusal_of_both [] ys = refl
first_refusal_of_both (None ∷ xs) ys = first_refusal_of_both xs ys
first_refusal_of_both (Some r ∷ xs) ys = refl

-- it is held so
means : (refusal : Option Refusal) (w : Where) (r : Refusal) (asked : Structured) → refusal ≡ Some r → IsRefused asked r → MeansStructured asked refusal w
means refusal w r (Refused line) is told = (r, (is, told))
means refusal w r (Asks asked) is told = absurd told

-- ---- the next of a list

module _ {X : Type 0} (f : X → Option Refusal) (xs : List X) (i : ℕ) (x : X) (less : i < length xs) (is : x ≡ get_or xs i x) where
  abbrev later : Option Refusal
  later = first_refusal (map f (drop (i + 1) xs))

  next : first_refusal (map f (drop i xs)) ≡ option_or (f x) later
  next = at_drop_more (λ (l : List X). first_refusal (map f l)) xs i x less ∙ ap (λ (y : X). option_or (f y) later) (sym is)

  pub refused_next : (found : Option Fault) (fault : Fault) → found ≡ Some fault → option_map refusal_of found ≡ f x → first_refusal (map f (drop i xs)) ≡ first_refusal (map f xs) → Some (refusal_of fault) ≡ first_refusal (map f xs)
  refused_next found fault some its so_far = ap (λ (o : Option Refusal). option_or o later) (sym (ap (option_map refusal_of) some) ∙ its) ∙ sym next ∙ so_far

  pub passed_next : (found : Option Fault) → found ≡ None → option_map refusal_of found ≡ f x → first_refusal (map f (drop i xs)) ≡ first_refusal (map f xs) → later ≡ first_refusal (map f xs)
  passed_next found none its so_far = ap (λ (o : Option Refusal). option_or o later) (sym (ap (option_map refusal_of) none) ∙ its) ∙ sym next ∙ so_far

module _ (columns : List Column) (subs : List (List (List ℕ))) where
  -- ---- by its columns: the order stands behind the conditions

  abbrev refused_in : List Cond → Option Refusal
  refused_in conds = first_refusal (map (cond_refusal columns subs) conds)

  pub refused_by_conds : (w : Where) (conds : List Cond) (found : Option Fault) (fault : Fault) → conds ≡ w.conds → found ≡ Some fault → option_map refusal_of found ≡ refused_in conds
      → Some (refusal_of fault) ≡ columns_refusal columns subs w
  refused_by_conds w conds found fault same some is =
      let orders = map (λ (o : OrderItem). item_refusal subs o.item) w.orders in
      let first = sym (ap (option_map refusal_of) some) ∙ is ∙ ap refused_in same in
      ap (λ (o : Option Refusal). option_or o (first_refusal orders)) first ∙ sym (first_refusal_of_both (map (cond_refusal columns subs) w.conds) orders)

  pub refused_by_orders : (w : Where) (conds : List Cond) (orders : List OrderItem) (found behind : Option Fault) → conds ≡ w.conds → orders ≡ w.orders → found ≡ None → option_map refusal_of found ≡ refused_in conds
      → option_map refusal_of behind ≡ first_refusal (map (λ o. item_refusal subs o.item) orders) → option_map refusal_of behind ≡ columns_refusal columns subs w
  refused_by_orders w conds orders found behind same same_orders none is last =
      let items = map (λ (o : OrderItem). item_refusal subs o.item) w.orders in
      let first = sym (ap (option_map refusal_of) none) ∙ is ∙ ap refused_in same in
      last ∙ ap (λ (os : List OrderItem). first_refusal (map (λ o. item_refusal subs o.item) os)) same_orders
      ∙ ap (λ (o : Option Refusal). option_or o (first_refusal items)) first ∙ sym (first_refusal_of_both (map (cond_refusal columns subs) w.conds) items)

  -- ---- by a number of its text

  pub refused_number : (place : ℕ) (fault : WhereFault) (v : Verdict) (asked : Structured) → fault ≡ BadNumber place → IfSome (verdict_of (Err fault)) (λ w. w ≡ v) → IsRefused asked (QueryNumber place)
      → MeansStructured asked (structured_refusal columns subs v) (where_found v)
  refused_number place fault v asked its said told =
      let is : OutOfRange place ≡ v = subst (λ (f : WhereFault). IfSome (verdict_of (Err f)) (λ w. w ≡ v)) its said in
      subst (λ (v : Verdict). MeansStructured asked (structured_refusal columns subs v) (where_found v)) is
      (means (structured_refusal columns subs (OutOfRange place)) (where_found (OutOfRange place)) (QueryNumber place) asked refl told)
