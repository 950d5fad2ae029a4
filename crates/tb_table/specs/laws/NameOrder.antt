-- Names in the order of their bytes: how often one stands among them, and that none stands there twice.
use Rattle.std.proofs.Common.{◌≡◌, ℕ, suc, ◌+◌, ◌<◌, ◌≤◌, Bool, true, false, List, [], ◌∷◌, length, get_or, refl, sym, ap, subst, ◌∙◌, arith, is_lt}
use Rattle.std.specs.Prelude.{◌||◌, sum_by, IsSorted}
use Rattle.std.specs.declared.cmp.Ordering.{Ordering}
use Rattle.std.specs.declared.cmp.Ordering.TheVariants.{Less, Equal, Greater}
use Rattle.std.specs.Ordering.{nat_cmp, ordering_reverse}
use Rattle.std.specs.Cmp.Lexicographic.{slice_cmp}
use Rattle.std.proofs.lemmas.Bool.{and_from}
use Rattle.std.proofs.lemmas.Cmp.{nat_list_cmp_total}
use Rattle.std.proofs.lemmas.Map.Lookups.{exact_bytes}
use Rattle.std.proofs.lemmas.List.MinMax.{ranks_by}
use Rattle.std.proofs.lemmas.List.Sorted.{sorted_far}
use Rattle.std.proofs.lemmas.List.Sums.{sum_by-cons}
use Rattle.ct_keep.specs.Looks.{one_if}
use Rattle.ct_entry.specs.Keys.{same_list}
use Rattle.ct_entry.specs.Each.{is_any_of}
use Rattle.ct_entry.specs.laws.Keys.{list_same}
use Rattle.tb_table.specs.Readings.{all_above, names_rise}

abbrev order : List ℕ → List ℕ → Ordering
order = slice_cmp nat_cmp

-- ---- how often a name stands among others

abbrev pub tally : List ℕ → List (List ℕ) → ℕ
tally t us = sum_by (λ u. one_if (same_list t u)) us

pub tally-cons : (t u : List ℕ) (us : List (List ℕ)) → tally t (u ∷ us) ≡ one_if (same_list t u) + tally t us
tally-cons t u us = sum_by-cons (λ u. one_if (same_list t u)) u us

tally_none : (t : List ℕ) (us : List (List ℕ)) → tally t us ≡ 0 → is_any_of t us ≡ false
tally_none t [] h = refl
tally_none t (u ∷ us) h = go (same_list t u) (sym (tally-cons t u us) ∙ h) (tally_none t us)
  where
    go : (b : Bool) → one_if b + tally t us ≡ 0 → (tally t us ≡ 0 → is_any_of t us ≡ false) → (b || is_any_of t us) ≡ false
    go true e rest = absurd (omega arith)
    go false e rest = rest (omega arith)

tally_some : (t : List ℕ) (us : List (List ℕ)) → 0 < tally t us → is_any_of t us ≡ true
tally_some t [] h = absurd (omega arith)
tally_some t (u ∷ us) h = go (same_list t u) (let e = tally-cons t u us in omega (arith, e)) (tally_some t us)
  where
    go : (b : Bool) → 0 < one_if b + tally t us → (0 < tally t us → is_any_of t us ≡ true) → (b || is_any_of t us) ≡ true
    go true e rest = refl
    go false e rest = rest (omega arith)

-- a name that stands among them as often as a test holds, which is once at most
pub among_once : (t : List ℕ) (us : List (List ℕ)) (b : Bool) → tally t us ≡ one_if b → is_any_of t us ≡ b
among_once t us true h = tally_some t us (omega (arith, h))
among_once t us false h = tally_none t us h

-- ---- names in order, none of them twice

abbrev NeverFalls : List (List ℕ) → Type 0
NeverFalls us = (i j : ℕ) (d : List ℕ) → i ≤ j → j < length us → is_lt (order (get_or us j d) (get_or us i d)) ≡ false

none_before : (t : List ℕ) (us : List (List ℕ)) → ((k : ℕ) (d : List ℕ) → k < length us → is_lt (order (get_or us k d) t) ≡ false) → is_any_of t us ≡ false → all_above t us ≡ true
none_before t [] low none = refl
none_before t (u ∷ us) low none =
    let apart = neither (same_list t u) (is_any_of t us) none in
    and_from _ _ (less (order t u) refl (low 0 [] (omega arith)) apart.0) (none_before t us (λ k d h. low (suc k) d (omega arith)) apart.1)
  where
    neither : (a b : Bool) → (a || b) ≡ false → (a ≡ false) × (b ≡ false)
    neither true b h = cc
    neither false b h = (refl, h)

    less : (o : Ordering) → order t u ≡ o → is_lt (order u t) ≡ false → same_list t u ≡ false → is_lt (order t u) ≡ true
    less Less is high apart = ap is_lt is
    less Equal is high apart =
        let same : t ≡ u = exact_bytes t u is in
        let one : same_list t u ≡ true = subst (λ (v : List ℕ). same_list t v ≡ true) same (list_same t) in
        cc
    less Greater is high apart =
        let back : order u t ≡ Less = nat_list_cmp_total.antisymm u t ∙ ap ordering_reverse is in
        cc

rise : (us : List (List ℕ)) → NeverFalls us → ((t : List ℕ) → tally t us ≤ 1) → names_rise us ≡ true
rise [] far once = refl
rise (u ∷ us) far once =
    let here : tally u us ≡ 0 = (let e = tally-cons u u us in let o = once u in let s : same_list u u ≡ true = list_same u in let c : one_if (same_list u u) ≡ 1 = rw s refl in omega (arith, e, o, c)) in
    and_from _ _ (none_before u us (λ k d h. far 0 (suc k) d (omega arith) (omega arith)) (tally_none u us here))
    (rise us (λ i j d le h. far (suc i) (suc j) d (omega arith) (omega arith)) (λ t. let e = tally-cons t u us in let o = once t in omega (arith, e, o)))

pub at_most_one : (b : Bool) → one_if b ≤ 1
at_most_one true = omega arith
at_most_one false = omega arith

-- names that are sorted, each at most once, strictly rise
pub sorted_names_rise : (us : List (List ℕ)) → IsSorted order us → ((t : List ℕ) → tally t us ≤ 1) → names_rise us ≡ true
sorted_names_rise us sorted once = rise us (λ i j d le h. sorted_far (λ x y. is_lt (order x y)) (ranks_by nat_list_cmp_total (λ x. x)) us sorted i j d le h) once
