-- Places in lists in which they rise.
use Rattle.std.proofs.Common.{◌≡◌, ◌+◌, ◌≤◌, ◌<◌, ◌⊎◌, inl, inr, ℕ, zero, suc, Bool, true, false, cond, ◌||◌, not, List, [], ◌∷◌, length, get_or, drop, Option, Some, None, refl, sym, ap, subst, ◌∙◌, arith, add-one}
use Rattle.std.specs.List.{prefix_len}
use Rattle.std.specs.List.Sorted.{IsPartitionedBy, IsPartitionPoint, IsStrictlySortedBy}
use Rattle.std.specs.Str.{bytes_eq}
use Rattle.std.specs.declared.cmp.Ordering.TheVariants.{Less}
use Rattle.std.specs.Ordering.{nat_cmp, is_lt}
use Rattle.std.specs.Cmp.Lexicographic.{slice_cmp}
use Rattle.std.proofs.lemmas.Bool.{and_parts, and_from, cases_lt}
use Rattle.std.proofs.lemmas.Cmp.{nat_list_cmp_total, tied_itself}
use Rattle.std.proofs.lemmas.List.Sums.{prefix_len_is}
use Rattle.std.proofs.lemmas.Map.Keys.{Less-from_sorted, sorted_from_all_adjacent}
use Rattle.std.proofs.lemmas.Slice.Eq.{bytes_eq-Decides}
use Rattle.ct_base.specs.laws.Orders.{less_from_test}
use Rattle.ct_entry.specs.Keys.{same_list}
use Rattle.ct_entry.specs.Listings.{first_of}
use Rattle.ct_entry.specs.laws.Keys.{list_from_same, list_same}
use Rattle.cat_walk.specs.Places.{IsNext, comes_before, is_first, is_listed, places_rise}
use Rattle.cat_walk.specs.laws.Orders.{before_then, same_place}

-- ---- places that rise are sorted

adjacent : (ps : List (List ℕ)) (k : ℕ) (d : List ℕ) → places_rise ps ≡ true → k + 1 < length ps → slice_cmp nat_cmp (get_or ps k d) (get_or ps (suc k) d) ≡ Less
adjacent [] k d rise within = absurd (omega (arith, within))
adjacent (p ∷ []) k d rise within = absurd (omega (arith, within))
adjacent (p ∷ q ∷ ps) zero d rise within = less_from_test _ (and_parts (comes_before p q) (places_rise (q ∷ ps)) rise).0
adjacent (p ∷ q ∷ ps) (suc k) d rise within = adjacent (q ∷ ps) k d (and_parts (comes_before p q) (places_rise (q ∷ ps)) rise).1 (omega (arith, within))

sorted : (ps : List (List ℕ)) → places_rise ps ≡ true → IsStrictlySortedBy (slice_cmp nat_cmp) ps
sorted ps rise = sorted_from_all_adjacent nat_list_cmp_total ps [] (λ k within. ap (λ n. slice_cmp nat_cmp (get_or ps k []) (get_or ps n [])) (add-one k) ∙ adjacent ps k [] rise within)

-- and the other way round
pub rise_from_sorted : (ps : List (List ℕ)) → IsStrictlySortedBy (slice_cmp nat_cmp) ps → places_rise ps ≡ true
unfolding IsStrictlySortedBy
rise_from_sorted [] h = refl
rise_from_sorted (p ∷ []) h = refl
rise_from_sorted (p ∷ q ∷ ps) h = and_from (comes_before p q) (places_rise (q ∷ ps)) (ap is_lt h.0.0) (rise_from_sorted (q ∷ ps) h.1)

in_order : (ps : List (List ℕ)) (i j : ℕ) (d : List ℕ) → places_rise ps ≡ true → i < j → j < length ps → comes_before (get_or ps i d) (get_or ps j d) ≡ true
in_order ps i j d rise less within = ap is_lt (Less-from_sorted (slice_cmp nat_cmp) ps i j d (sorted ps rise) less within)

-- ---- what a binary search finds

module _ (ps : List (List ℕ)) (rise : places_rise ps ≡ true) (place : List ℕ) where
  pub those_before : IsPartitionedBy (λ p. comes_before p place) ps
  those_before i j d most within at = go (cases_lt i j)
    where
      go : (i < j) ⊎ (j ≤ i) → comes_before (get_or ps i d) place ≡ true
      go (inl less) = before_then (get_or ps i d) (get_or ps j d) place (in_order ps i j d rise less within) at
      go (inr same) = let is : ◌≡◌ {A = ℕ} j i = omega (arith, same, most) in subst (λ (k : ℕ). comes_before (get_or ps k d) place ≡ true) is at

  pub those_up_to : IsPartitionedBy (λ p. not (comes_before place p)) ps
  those_up_to i j d most within at = go (cases_lt i j)
    where
      not_behind : (t u : Bool) → not t ≡ true → (u ≡ true → t ≡ true) → not u ≡ true
      not_behind t false h f = refl
      not_behind t true h f = ap not (sym (f refl)) ∙ h

      go : (i < j) ⊎ (j ≤ i) → not (comes_before place (get_or ps i d)) ≡ true
      go (inl less) = not_behind (comes_before place (get_or ps j d)) (comes_before place (get_or ps i d)) at (λ h. before_then place (get_or ps i d) (get_or ps j d) h (in_order ps i j d rise less within))
      go (inr same) = let is : ◌≡◌ {A = ℕ} j i = omega (arith, same, most) in subst (λ (k : ℕ). not (comes_before place (get_or ps k d)) ≡ true) is at

-- the point at which a list is parted is how many pass at its beginning
pub point_is : (test : List ℕ → Bool) (ps : List (List ℕ)) (i : ℕ) → i ≤ length ps → IsPartitionPoint (λ p. test p ≡ true) (λ p. test p ≡ false) ps i → i ≡ prefix_len test ps
point_is test ps i within point = sym (prefix_len_is test ps i [] within (λ k below. point.0 k [] (omega arith) below) (λ less. point.1 i [] (omega arith) less))

-- ---- which places are listed

pub other_place : (p q : List ℕ) → comes_before p q ≡ true → same_list p q ≡ false
other_place p q before = elim (same_list p q) as (λ t. same_list p q ≡ t → same_list p q ≡ false) [
  | true ↦ λ t. no_way (sym (ap is_lt (tied_itself nat_list_cmp_total p)) ∙ subst (λ (r : List ℕ). comes_before p r ≡ true) (sym (list_from_same p q t)) before)
  | false ↦ λ t. t
] refl
  where
    no_way : false ≡ true → same_list p q ≡ false
    no_way e = cc

other_back : (p q : List ℕ) → comes_before p q ≡ true → same_list q p ≡ false
other_back p q before = elim (same_list q p) as (λ t. same_list q p ≡ t → same_list q p ≡ false) [
  | true ↦ λ t. no_way (sym (other_place p q before) ∙ subst (λ (r : List ℕ). same_list p r ≡ true) (sym (list_from_same q p t)) (list_same p))
  | false ↦ λ t. t
] refl
  where
    no_way : false ≡ true → same_list q p ≡ false
    no_way e = cc

tail_rises : (p : List ℕ) (ps : List (List ℕ)) → places_rise (p ∷ ps) ≡ true → places_rise ps ≡ true
tail_rises p [] rise = refl
tail_rises p (q ∷ ps) rise = (and_parts (comes_before p q) (places_rise (q ∷ ps)) rise).1

-- what comes before the first of them isn't
not_among : (place p : List ℕ) (ps : List (List ℕ)) → comes_before place p ≡ true → places_rise (p ∷ ps) ≡ true → is_listed (p ∷ ps) place ≡ false
not_among place p [] before rise = ap (λ (t : Bool). t || false) (other_place place p before)
not_among place p (q ∷ ps) before rise =
    let parts = and_parts (comes_before p q) (places_rise (q ∷ ps)) rise in
    ap (λ (t : Bool). t || is_listed (q ∷ ps) place) (other_place place p before) ∙ not_among place q ps (before_then place p q before parts.0) parts.1

drop_first : (n : ℕ) (p : List ℕ) (ps : List (List ℕ)) → drop (1 + n) (p ∷ ps) ≡ drop n ps
drop_first n p ps = let one : 1 + n ≡ suc n = omega arith in ap (λ (k : ℕ). drop k (p ∷ ps)) one

-- a place is listed where it is the first that comes not before it
pub first_is_listed : (place : List ℕ) (ps : List (List ℕ)) → places_rise ps ≡ true → is_first (drop (prefix_len (λ p. comes_before p place) ps) ps) place ≡ is_listed ps place
first_is_listed place [] rise = refl
first_is_listed place (p ∷ ps) rise = go (comes_before p place) refl (first_is_listed place ps (tail_rises p ps rise))
  where
    at_first : (b : Bool) → bytes_eq p place ≡ b → comes_before p place ≡ false → bytes_eq p place ≡ is_listed (p ∷ ps) place
    at_first true same no_less = same ∙ sym (ap (λ (t : Bool). t || is_listed ps place) (subst (λ (q : List ℕ). same_list place q ≡ true) (sym ((bytes_eq-Decides p place).0 same)) (list_same place)))
    at_first false other no_less = other ∙ sym (not_among place p ps behind rise)
      where
        no_way : true ≡ false → comes_before place p ≡ true
        no_way e = cc

        back : (t : Bool) → comes_before place p ≡ t → comes_before place p ≡ true
        back true t = t
        back false t = no_way (sym ((bytes_eq-Decides p place).1 (same_place p place no_less t)) ∙ other)

        behind : comes_before place p ≡ true
        behind = back (comes_before place p) refl

    go : (b : Bool) → comes_before p place ≡ b → is_first (drop (prefix_len (λ p. comes_before p place) ps) ps) place ≡ is_listed ps place
        → is_first (drop (cond b (1 + prefix_len (λ p. comes_before p place) ps) 0) (p ∷ ps)) place ≡ is_listed (p ∷ ps) place
    go true before rest =
        ap (λ (l : List (List ℕ)). is_first l place) (drop_first (prefix_len (λ p. comes_before p place) ps) p ps) ∙ rest ∙ sym (ap (λ (t : Bool). t || is_listed ps place) (other_back p place before))
    go false no_less rest = at_first (bytes_eq p place) refl no_less

-- the first of those behind a place is the next
pub first_is_next_listed : (after : List ℕ) (ps : List (List ℕ)) → places_rise ps ≡ true → IsNext (is_listed ps) after (first_of (drop (prefix_len (λ p. not (comes_before after p)) ps) ps))
first_is_next_listed after [] rise = λ p h. refl
first_is_next_listed after (q ∷ ps) rise = go (comes_before after q) refl (first_is_next_listed after ps (tail_rises q ps rise))
  where
    no_way : (p : List ℕ) → false ≡ true → same_list p q ≡ false
    no_way p e = cc

    -- one behind the place isn't this one, where this isn't
    other : (p : List ℕ) → comes_before after q ≡ false → comes_before after p ≡ true → same_list p q ≡ false
    other p here h = elim (same_list p q) as (λ t. same_list p q ≡ t → same_list p q ≡ false) [
      | true ↦ λ t. no_way p (sym here ∙ subst (λ (r : List ℕ). comes_before after r ≡ true) (list_from_same p q t) h)
      | false ↦ λ t. t
    ] refl

    later : (p : List ℕ) → same_list p q ≡ false → is_listed (q ∷ ps) p ≡ is_listed ps p
    later p apart = ap (λ (t : Bool). t || is_listed ps p) apart

    passed : comes_before after q ≡ false → (o : Option (List ℕ)) → IsNext (is_listed ps) after o → IsNext (is_listed (q ∷ ps)) after o
    passed here None none = λ p h. later p (other p here h) ∙ none p h
    passed here (Some x) next = record {
      behind = next.behind;
      at = later x (other x here next.behind) ∙ next.at;
      first = λ p h before. later p (other p here h) ∙ next.first p h before;
    }

    go : (b : Bool) → comes_before after q ≡ b → IsNext (is_listed ps) after (first_of (drop (prefix_len (λ p. not (comes_before after p)) ps) ps))
        → IsNext (is_listed (q ∷ ps)) after (first_of (drop (cond (not b) (1 + prefix_len (λ p. not (comes_before after p)) ps) 0) (q ∷ ps)))
    go true here rest = record {
      behind = here;
      at = ap (λ (t : Bool). t || is_listed ps q) (list_same q);
      first = λ p h before. not_among p q ps before rise;
    }
    go false here rest =
        let n : ℕ = prefix_len (λ p. not (comes_before after p)) ps in
        subst (λ (l : List (List ℕ)). IsNext (is_listed (q ∷ ps)) after (first_of l)) (sym (drop_first n q ps)) (passed here (first_of (drop n ps)) rest)
