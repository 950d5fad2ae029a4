-- Sorting instances and dropping equal neighbours gives the rising list: two strictly rising lists with the same members are one.
use Rattle.std.proofs.Common.{◌≡◌, ℕ, zero, suc, ◌<◌, ◌⊎◌, inl, inr, Bool, true, false, cond, List, [], ◌∷◌, length, get_or, refl, sym, subst, ◌∙◌, arith}
use Rattle.std.specs.List.{AllByRecursion, Contains, insert, dedup}
use Rattle.std.specs.List.Sorted.{IsPermutation, IsSorted, IsStrictlySortedBy}
use Rattle.std.specs.Ordering.{is_lt, is_eq}
use Rattle.std.specs.declared.cmp.Ordering.TheVariants.{Less, Equal}
use Rattle.std.proofs.lemmas.Bool.{or_cases}
use Rattle.std.proofs.lemmas.Cmp.{tied_itself, eq_by_cmp_equiv}
use Rattle.std.proofs.lemmas.List.Kept.{IsStrictlySortedBy-dedup, Contains-dedup, Contains-from_dedup}
use Rattle.std.proofs.lemmas.List.Sorted.{Contains-permutation, IsPermutation-sym}
use Rattle.std.proofs.lemmas.Map.Keys.{sorted_head, sorted_tail}
use Rattle.ct_base.specs.laws.Orders.{equal_from_test}
use Rattle.tx_document.specs.declared.views.SectionView.{SectionView}
use Rattle.tx_document.specs.Documents.{rising, has_instance, instance_place, section_cmp}
use Rattle.tx_document.specs.Promises.{InstancesRise}
use Rattle.tx_document.specs.laws.Instances.{put_instance, put_is, rising_rises, section_cmp_total, section_cmp_exact}

-- ---- members

abbrev In : SectionView → List SectionView → Type 0
In i [] = ⊥
In i (j ∷ js) = (i ≡ j) ⊎ In i js

in_contained : (is : List SectionView) (i : SectionView) → Contains is i → In i is
in_contained is i there = go is there.0 there.1 there.2
  where
    go : (is : List SectionView) (k : ℕ) → k < length is → get_or is k i ≡ i → In i is
    go [] k less at = absurd (omega arith)
    go (j ∷ js) zero less at = inl (sym at)
    go (j ∷ js) (suc k) less at = inr (go js k (omega arith) at)

contained_in : (is : List SectionView) (i : SectionView) → In i is → Contains is i
contained_in [] i there = absurd there
contained_in (j ∷ js) i (inl same) = (0, omega arith, sym same)
contained_in (j ∷ js) i (inr there) = let rest = contained_in js i there in (suc rest.0, omega (arith, rest.1), rest.2)

all_in : (P : SectionView → Type 0) (is : List SectionView) (i : SectionView) → AllByRecursion P is → In i is → P i
all_in P [] i all there = absurd there
all_in P (j ∷ js) i all (inl same) = subst P (sym same) all.0
all_in P (j ∷ js) i all (inr there) = all_in P js i all.1 there

-- ---- two lists that rise

no_less : (i : SectionView) → section_cmp i i ≡ Less → ⊥
no_less i less = let tie : Less ≡ Equal = sym less ∙ tied_itself section_cmp_total i in cc

abbrev SameMembers : List SectionView → List SectionView → Type 0
SameMembers is js = (i : SectionView) → In i is → In i js

same_heads : (i j : SectionView) (is js : List SectionView) → InstancesRise (i ∷ is) → InstancesRise (j ∷ js) → In i (j ∷ js) → In j (i ∷ is) → i ≡ j
same_heads i j is js up rise (inl same) there = same
same_heads i j is js up rise (inr here) (inl same) = sym same
same_heads i j is js up rise (inr here) (inr there) =
    let low : section_cmp j i ≡ Less = all_in (λ (k : SectionView). section_cmp j k ≡ Less) js i rise.0 here in
    let high : section_cmp i j ≡ Less = all_in (λ (k : SectionView). section_cmp i k ≡ Less) is j up.0 there in
    absurd (no_less i (section_cmp_total.trans i j i high low))

later_members : (i j : SectionView) (is js : List SectionView) → i ≡ j → InstancesRise (i ∷ is) → SameMembers (i ∷ is) (j ∷ js) → SameMembers is js
later_members i j is js same up members k there = go (members k (inr there))
  where
    go : (k ≡ j) ⊎ In k js → In k js
    go (inl here) = absurd (no_less i (subst (λ (l : SectionView). section_cmp i l ≡ Less) (here ∙ sym same) (all_in (λ (l : SectionView). section_cmp i l ≡ Less) is k up.0 there)))
    go (inr more) = more

one_list : (is js : List SectionView) → InstancesRise is → InstancesRise js → SameMembers is js → SameMembers js is → is ≡ js
one_list [] [] up rise there back = refl
one_list [] (j ∷ js) up rise there back = absurd (back j (inl refl))
one_list (i ∷ is) [] up rise there back = absurd (there i (inl refl))
one_list (i ∷ is) (j ∷ js) up rise there back =
    let same : i ≡ j = same_heads i j is js up rise (there i (inl refl)) (back j (inl refl)) in
    let rest : is ≡ js = one_list is js up.1 rise.1 (later_members i j is js same up there) (later_members j i js is (sym same) rise back) in
    λ n. same n ∷ rest n

-- ---- the members of the rising list

has_in : (i : SectionView) (is : List SectionView) → has_instance i is ≡ true → In i is
has_in i [] has = cc
has_in i (j ∷ js) has = go (or_cases (is_eq (section_cmp j i)) (has_instance i js) has) (has_in i js)
  where
    go : (is_eq (section_cmp j i) ≡ true) ⊎ (has_instance i js ≡ true) → (has_instance i js ≡ true → In i js) → In i (j ∷ js)
    go (inl tie) rest = inl (sym (section_cmp_exact j i (equal_from_test _ tie)))
    go (inr later) rest = inr (rest later)

in_put : (i j : SectionView) (is : List SectionView) → In i (put_instance j is) → (i ≡ j) ⊎ In i is
in_put i j [] there = there
in_put i j (k ∷ ks) there = go (is_lt (section_cmp k j)) there (in_put i j ks)
  where
    later : (i ≡ j) ⊎ In i ks → (i ≡ j) ⊎ In i (k ∷ ks)
    later (inl same) = inl same
    later (inr more) = inr (inr more)

    go : (b : Bool) → In i (cond b (k ∷ put_instance j ks) (j ∷ k ∷ ks)) → (In i (put_instance j ks) → (i ≡ j) ⊎ In i ks) → (i ≡ j) ⊎ In i (k ∷ ks)
    go true (inl same) rest = inr (inl same)
    go true (inr more) rest = later (rest more)
    go false more rest = more

put_in : (i j : SectionView) (is : List SectionView) → (i ≡ j) ⊎ In i is → In i (put_instance j is)
put_in i j [] there = there
put_in i j (k ∷ ks) there = go (is_lt (section_cmp k j)) there (put_in i j ks)
  where
    go : (b : Bool) → (i ≡ j) ⊎ In i (k ∷ ks) → ((i ≡ j) ⊎ In i ks → In i (put_instance j ks)) → In i (cond b (k ∷ put_instance j ks) (j ∷ k ∷ ks))
    go true (inl same) rest = inr (rest (inl same))
    go true (inr (inl same)) rest = inl same
    go true (inr (inr more)) rest = inr (rest (inr more))
    go false more rest = more

in_rising : (is : List SectionView) → SameMembers is (rising is)
in_rising [] i there = there
in_rising (j ∷ js) i there = go (has_instance j (rising js)) refl there (in_rising js i)
  where
    go : (b : Bool) → has_instance j (rising js) ≡ b → (i ≡ j) ⊎ In i js → (In i js → In i (rising js)) → In i (cond b (rising js) (insert (rising js) (instance_place j (rising js)) j))
    go true has (inl same) rest = subst (λ (k : SectionView). In k (rising js)) (sym same) (has_in j (rising js) has)
    go true has (inr more) rest = rest more
    go false has (inl same) rest = subst (In i) (sym (put_is j (rising js))) (put_in i j (rising js) (inl same))
    go false has (inr more) rest = subst (In i) (sym (put_is j (rising js))) (put_in i j (rising js) (inr (rest more)))

of_rising : (is : List SectionView) → SameMembers (rising is) is
of_rising [] i there = there
of_rising (j ∷ js) i there = go (has_instance j (rising js)) there (of_rising js i)
  where
    either : (i ≡ j) ⊎ In i (rising js) → (In i (rising js) → In i js) → In i (j ∷ js)
    either (inl same) rest = inl same
    either (inr more) rest = inr (rest more)

    go : (b : Bool) → In i (cond b (rising js) (insert (rising js) (instance_place j (rising js)) j)) → (In i (rising js) → In i js) → In i (j ∷ js)
    go true more rest = inr (rest more)
    go false more rest = either (in_put i j (rising js) (subst (In i) (put_is j (rising js)) more)) rest

-- ---- the law

rises_from_sorted : (is : List SectionView) → IsStrictlySortedBy section_cmp is → InstancesRise is
rises_from_sorted [] up = tt
rises_from_sorted (i ∷ is) up = (sorted_head section_cmp i is up, rises_from_sorted is (sorted_tail section_cmp i is up))

abbrev pub same_instance : SectionView → SectionView → Bool
same_instance i j = is_eq (section_cmp i j)

pub sorted_is_rising : (found sorted : List SectionView) → IsPermutation found sorted → IsSorted section_cmp sorted → dedup same_instance sorted ≡ rising found
sorted_is_rising found sorted moved up =
    one_list (dedup same_instance sorted) (rising found)
    (rises_from_sorted (dedup same_instance sorted) (IsStrictlySortedBy-dedup section_cmp_total (λ i j. refl) sorted up))
    (rising_rises found)
    (λ i there. in_rising found i (in_contained found i (Contains-permutation sorted found i (IsPermutation-sym found sorted moved) (Contains-from_dedup same_instance sorted i (contained_in (dedup same_instance sorted) i there)))))
    (λ i there. in_contained (dedup same_instance sorted) i (Contains-dedup (eq_by_cmp_equiv section_cmp_total) (λ k l tie. section_cmp_exact k l (equal_from_test _ tie)) sorted i (Contains-permutation found sorted i moved (contained_in found i (of_rising found i there)))))
