-- How the names that a scan finds become the names of all tables.
use Rattle.std.proofs.Common.{◌≡◌, ℕ, ◌+◌, Bool, true, false, cond, List, [], ◌∷◌, length, Option, Some, None, refl, sym, ap, subst, ◌∙◌, arith, append-nil, zero-add}
use Rattle.std.specs.Prelude.{◌&&◌, is_some, IsPermutation, IsSorted}
use Rattle.std.specs.List.{cons_option}
use Rattle.std.specs.declared.cmp.Ordering.{Ordering}
use Rattle.std.specs.Ordering.{nat_cmp, is_eq, eq_by_cmp}
use Rattle.std.specs.Cmp.Lexicographic.{slice_cmp}
use Rattle.std.specs.FinMap.{entries, find, get, get-entries}
use Rattle.std.proofs.lemmas.Bool.{eq-eqb, and_parts}
use Rattle.std.proofs.lemmas.Cmp.{nat_list_cmp_total, tied_itself}
use Rattle.std.proofs.lemmas.Map.Lookups.{exact_bytes}
use Rattle.std.proofs.lemmas.List.Sorted.{sum_by-IsPermutation}
use Rattle.ct_base.specs.Names.{is_kept, kept_name}
use Rattle.ct_keep.specs.Content.{Content}
use Rattle.ct_keep.specs.Looks.{one_if}
use Rattle.ct_keep.specs.Tail.{tail}
use Rattle.ct_keep.specs.laws.Tail.{get-tail}
use Rattle.ct_keep.specs.laws.RisingKeys.{below, rises, entries_rise}
use Rattle.ct_entry.specs.declared.kinds.Kind.TheVariants as kind
use Rattle.ct_entry.specs.Kinds.{code}
use Rattle.ct_entry.specs.Keys.{counted_bytes, same_list}
use Rattle.ct_base.specs.laws.Orders.{equal_from_test}
use Rattle.ct_entry.specs.laws.Keys.{list_from_same, list_same}
use Rattle.ct_keep.specs.laws.FoundKeys.{none_below, below_tied}
use Rattle.ct_entry.specs.Listings.{owner_of, owners_of, owners_under}
use Rattle.ct_entry.specs.laws.Owners.{owner_some}
use Rattle.tb_table.specs.laws.NameOrder.{tally, tally-cons, among_once, at_most_one, sorted_names_rise}
use Rattle.tb_table.specs.Readings.{has_table, AreTableNames}

abbrev order : List ℕ → List ℕ → Ordering
order = slice_cmp nat_cmp

-- ---- the names that a scan finds, each once

owner_counted : (t : List ℕ) → owner_of (counted_bytes t) ≡ kept_name t
owner_counted t = rw (eq-eqb (length t) (length t) refl) refl

kept_parts : (t u : List ℕ) → kept_name t ≡ Some u → (is_kept t ≡ true) × (t ≡ u)
kept_parts t u = go (is_kept t)
  where
    go : (b : Bool) → cond b (Some t) None ≡ Some u → (b ≡ true) × (t ≡ u)
    go true e = (refl, cc)
    go false e = cc

kept_not : (t : List ℕ) → kept_name t ≡ None → is_kept t ≡ false
kept_not t = go (is_kept t)
  where
    go : (b : Bool) → cond b (Some t) None ≡ None → b ≡ false
    go true e = cc
    go false e = refl

nothing : (b : Bool) → one_if (b && false) ≡ 0
nothing true = refl
nothing false = refl

tally-owners : (t : List ℕ) (es : List (List ℕ × List ℕ)) → rises order es ≡ true → tally t (owners_of es) ≡ one_if (is_kept t && is_some (find order (counted_bytes t) es))
tally-owners t [] h = sym (nothing (is_kept t))
tally-owners t (e ∷ es) h =
    let b = and_parts (below order e.0 es) (rises order es) h in
    at_head (owner_of e.0) refl (eq_by_cmp order (counted_bytes t) e.0) refl b.0 (tally-owners t es b.1)
  where
    whole : (u : List ℕ) (k : Bool) → is_kept t ≡ k → k ≡ true → t ≡ u → tally t (owners_of es) ≡ 0 → tally t (u ∷ owners_of es) ≡ one_if (is_kept t && true)
    whole u k is here same none =
        let one : same_list t u ≡ true = subst (λ (v : List ℕ). same_list t v ≡ true) same (list_same t) in
        let kept : is_kept t ≡ true = is ∙ here in
        tally-cons t u (owners_of es) ∙ rw (one, none, kept) refl

    at_head : (o : Option (List ℕ)) → owner_of e.0 ≡ o → (tie : Bool) → eq_by_cmp order (counted_bytes t) e.0 ≡ tie → below order e.0 es ≡ true → tally t (owners_of es) ≡ one_if (is_kept t && is_some (find order (counted_bytes t) es))
        → tally t (cons_option o (owners_of es)) ≡ one_if (is_kept t && is_some (cond tie (Some e.1) (find order (counted_bytes t) es)))
    at_head o is true tie low rest =
        let here : counted_bytes t ≡ e.0 = exact_bytes (counted_bytes t) e.0 (equal_from_test _ tie) in
        let kept : kept_name t ≡ o = sym (owner_counted t) ∙ ap owner_of here ∙ is in
        let gone : find order (counted_bytes t) es ≡ None = none_below order (counted_bytes t) es (below_tied order nat_list_cmp_total (counted_bytes t) e.0 es tie low) in
        let none : tally t (owners_of es) ≡ 0 = rest ∙ ap (λ (x : Option (List ℕ)). one_if (is_kept t && is_some x)) gone ∙ nothing (is_kept t) in
        found o kept none
      where
        found : (o : Option (List ℕ)) → kept_name t ≡ o → tally t (owners_of es) ≡ 0 → tally t (cons_option o (owners_of es)) ≡ one_if (is_kept t && true)
        found None kept none = let not_kept : is_kept t ≡ false = kept_not t kept in none ∙ rw not_kept refl
        found (Some u) kept none = let p = kept_parts t u kept in whole u (is_kept t) refl p.0 p.1 none
    at_head None is false tie low rest = rest
    at_head (Some u) is false tie low rest = other (same_list t u) refl
      where
        other : (b : Bool) → same_list t u ≡ b → tally t (u ∷ owners_of es) ≡ one_if (is_kept t && is_some (find order (counted_bytes t) es))
        other true one =
            let same : t ≡ u = list_from_same t u one in
            let here : e.0 ≡ counted_bytes t = (owner_some e.0 u is).0 ∙ ap counted_bytes (sym same) in
            let tied : eq_by_cmp order (counted_bytes t) e.0 ≡ true = ap (eq_by_cmp order (counted_bytes t)) here ∙ ap is_eq (tied_itself nat_list_cmp_total (counted_bytes t)) in
            cc
        other false apart = tally-cons t u (owners_of es) ∙ ap (λ (b : Bool). one_if b + tally t (owners_of es)) apart ∙ zero-add (tally t (owners_of es)) ∙ rest

tally-under : (t : List ℕ) (m : Content) → tally t (owners_under kind.Tables m) ≡ one_if (has_table m t)
tally-under t m =
    tally-owners t (entries (tail (code kind.Tables ∷ []) m)) (entries_rise order (tail (code kind.Tables ∷ []) m))
    ∙ ap (λ (o : Option (List ℕ)). one_if (is_kept t && is_some o))
    (sym (get-entries (tail (code kind.Tables ∷ []) m) (counted_bytes t)) ∙ get-tail (code kind.Tables ∷ []) m (length t) t ∙ ap (λ (l : List ℕ). get m (code kind.Tables ∷ length t ∷ l)) (sym (append-nil t)))

-- the names that a scan finds, put into order
pub tables_named : (m : Content) (found names : List (List ℕ)) → found ≡ owners_under kind.Tables m → IsPermutation found names → IsSorted (slice_cmp nat_cmp) names → AreTableNames m names
tables_named m found names is moved sorted = record {
  rising = sorted_names_rise names sorted (λ t. let e = once t in let l = at_most_one (has_table m t) in omega (arith, e, l));
  each = λ t. among_once t names (has_table m t) (once t);
}
  where
    once : (t : List ℕ) → tally t names ≡ one_if (has_table m t)
    once t = sum_by-IsPermutation (λ u. one_if (same_list t u)) found names moved ∙ ap (tally t) is ∙ tally-under t m
