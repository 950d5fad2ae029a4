-- Values, each with its column.
use Rattle.std.proofs.Common.{◌≡◌, ℕ, suc, ◌+◌, ◌<◌, ◌≤◌, Bool, true, false, cond, List, [], ◌∷◌, ◌++◌, length, take, drop, get_or, Option, Some, None, refl, sym, ap, ◌∙◌, arith, inl, inr, add-one, append-nil}
use Rattle.std.proofs.Math.Seq.{drop-cons}
use Rattle.std.proofs.Math.ListN.{drop_of_length-le}
use Rattle.std.proofs.lemmas.List.{take_more}
use Rattle.std.proofs.lemmas.List.Elements.{filter_map-append}
use Rattle.std.proofs.lemmas.Bool.{cases_lt}
use Rattle.ct_entry.specs.Keys.{same_list}
use Rattle.std.specs.Prelude.{◌&&◌, ◌||◌, ◌⊎◌}
use Rattle.std.specs.List.{filter_map, cons_option}
use Rattle.st_parse.specs.declared.statements.Operand.{Operand}
use Rattle.st_parse.specs.declared.statements.Operand.TheVariants.{Number}
use Rattle.st_parse.specs.declared.statements.Whole.TheVariants.{Beyond}
use Rattle.tb_table.specs.declared.columns.Column.{Column}
use Rattle.db_change.specs.Inserting.{value_under, is_of_sort, are_of_sorts, is_too_long, has_too_long}

-- ---- the values at a place

pub sorts_at : (cs : List Column) (vs : List Operand) (p : ℕ) (c : Column) (v : Operand) → p < length cs → p < length vs → c ≡ get_or cs p c → v ≡ get_or vs p v
    → are_of_sorts (drop p cs) (drop p vs) ≡ (is_of_sort c.sort v && are_of_sorts (drop (p + 1) cs) (drop (p + 1) vs))
sorts_at cs vs p c v few less column value =
    ap (λ (ds : List Column). are_of_sorts ds (drop p vs)) (drop-cons cs p c few ∙ ap (λ (d : Column). d ∷ drop (suc p) cs) (sym column))
    ∙ ap (are_of_sorts (c ∷ drop (suc p) cs)) (drop-cons vs p v less ∙ ap (λ (w : Operand). w ∷ drop (suc p) vs) (sym value))
    ∙ ap (λ (q : ℕ). is_of_sort c.sort v && are_of_sorts (drop q cs) (drop q vs)) (sym (add-one p))

pub sorts_apart : (cs : List Column) (vs : List Operand) → (length cs ≡ length vs → ⊥) → false ≡ are_of_sorts cs vs
sorts_apart [] [] other = absurd (other refl)
sorts_apart [] (v ∷ vs) other = refl
sorts_apart (c ∷ cs) [] other = refl
sorts_apart (c ∷ cs) (v ∷ vs) other = neither (is_of_sort c.sort v) (sorts_apart cs vs (λ e. other (omega (arith, e))))
  where
    neither : (b : Bool) → false ≡ are_of_sorts cs vs → false ≡ (b && are_of_sorts cs vs)
    neither true rest = rest
    neither false rest = refl

pub long_at : (cs : List Column) (vs : List Operand) (p : ℕ) (c : Column) (v : Operand) → p < length cs → p < length vs → c ≡ get_or cs p c → v ≡ get_or vs p v
    → has_too_long (drop p cs) (drop p vs) ≡ (is_too_long c.sort v || has_too_long (drop (p + 1) cs) (drop (p + 1) vs))
long_at cs vs p c v few less column value =
    ap (λ (ds : List Column). has_too_long ds (drop p vs)) (drop-cons cs p c few ∙ ap (λ (d : Column). d ∷ drop (suc p) cs) (sym column))
    ∙ ap (has_too_long (c ∷ drop (suc p) cs)) (drop-cons vs p v less ∙ ap (λ (w : Operand). w ∷ drop (suc p) vs) (sym value))
    ∙ ap (λ (q : ℕ). is_too_long c.sort v || has_too_long (drop q cs) (drop q vs)) (sym (add-one p))

-- ---- the values under names

-- a name that isn't the one sought is passed
pub value_step : (name n : List ℕ) (names : List (List ℕ)) (values : List Operand) (p : ℕ) → p < length names → n ≡ get_or names p n → same_list name n ≡ false
    → value_under name (drop (p + 1) names) (drop (p + 1) values) ≡ value_under name (drop p names) (drop p values)
value_step name n names values p less is other = rw (add-one) (sym (ap (λ (ns : List (List ℕ)). value_under name ns (drop p values)) (drop-cons names p n less ∙ ap (λ (m : List ℕ). m ∷ drop (suc p) names) (sym is)) ∙ passed (cases_lt p (length values))))
  where
    none : (ns : List (List ℕ)) → value_under name ns [] ≡ None
    none [] = refl
    none (m ∷ ns) = refl

    passed : (p < length values) ⊎ (length values ≤ p) → value_under name (n ∷ drop (suc p) names) (drop p values) ≡ value_under name (drop (suc p) names) (drop (suc p) values)
    passed (inl few) =
        ap (value_under name (n ∷ drop (suc p) names)) (drop-cons values p (Number Beyond) few)
        ∙ ap (λ (b : Bool). cond b (Some (get_or values p (Number Beyond))) (value_under name (drop (suc p) names) (drop (suc p) values))) other
    passed (inr past) =
        let after : length values ≤ suc p = omega arith in
        ap (value_under name (n ∷ drop (suc p) names)) (drop_of_length-le values past)
        ∙ sym (ap (value_under name (drop (suc p) names)) (drop_of_length-le values after) ∙ none (drop (suc p) names))

-- ---- the values that a list of columns finds

module _ {X Y : Type 0} (h : X → Option Y) (xs : List X) (i : ℕ) (x : X) (items : List Y) (so_far : items ≡ filter_map h (take i xs)) (less : i < length xs) (is : x ≡ get_or xs i x) where
  filter_step : filter_map h (take (i + 1) xs) ≡ items ++ cons_option (h x) []
  filter_step =
      ap (filter_map h) (take_more xs i x less)
      ∙ filter_map-append h (take i xs) (get_or xs i x ∷ [])
      ∙ ap (λ y. filter_map h (take i xs) ++ filter_map h (y ∷ [])) (sym is)
      ∙ ap (λ (ys : List Y). ys ++ cons_option (h x) []) (sym so_far)

  pub filter_none : None ≡ h x → items ≡ filter_map h (take (i + 1) xs)
  filter_none none = sym (filter_step ∙ ap (λ (o : Option Y). items ++ cons_option o []) (sym none) ∙ append-nil items)

  pub filter_some : (v : Y) (new : List Y) → Some v ≡ h x → new ≡ items ++ v ∷ [] → new ≡ filter_map h (take (i + 1) xs)
  filter_some v new some added = added ∙ sym (filter_step ∙ ap (λ (o : Option Y). items ++ cons_option o []) (sym some))
