-- What searches find in lists that rise strictly.
use Rattle.std.specs.Ordering.{nat_cmp}
use Rattle.std.specs.Prelude.{◌||◌, nat_le, nat_lt, eqb}
use Rattle.std.specs.List.{filter}
use Rattle.std.specs.List.Sorted.{IsBinarySearchResult, IsPartitionPoint}
use Rattle.std.specs.Result.{is_ok}
use Rattle.std.proofs.Common.{◌≡◌, ◌≢◌, ℕ, zero, suc, ◌≤◌, ◌<◌, Bool, true, false, cond, ◌&&◌, List, [], ◌∷◌, length, get_or, take, drop, Result, Ok, Err, refl, sym, ap, ◌∙◌, arith, inl, inr}
use Rattle.std.proofs.lemmas.Bool.{cases_lt, ltb-true, le-leb, lt-leb, ltb-false, eq-eqb, ne_eqb}
use Rattle.std.proofs.lemmas.List.Sorted.{searched}
use Rattle.ix_spans.specs.Occurrences.{has_number}
use Rattle.ix_spans.specs.Rising.{Above, Rising, is_between_places}
use Rattle.ix_spans.proofs.Parting.{back_is, front_is}
use Rattle.ix_spans.specs.laws.Rising.{above_rises}

-- ---- rising numbers by their places

above_at : (n : ℕ) (ps : List ℕ) (j d : ℕ) → Above n ps → j < length ps → n < get_or ps j d
above_at n [] j d h within = absurd (omega (arith, within))
above_at n (p ∷ ps) zero d h within = h.0
above_at n (p ∷ ps) (suc j) d h within = let rest = above_at p ps j d h.1 (omega (arith, within)) in omega (arith, rest, h.0)

pub in_order : (ps : List ℕ) (i j d : ℕ) → Rising ps → i ≤ j → j < length ps → get_or ps i d ≤ get_or ps j d
in_order [] i j d h before within = absurd (omega (arith, within))
in_order (p ∷ ps) zero zero d h before within = omega arith
in_order (p ∷ ps) zero (suc j) d h before within = let more = above_at p ps j d h (omega (arith, within)) in omega (arith, more)
in_order (p ∷ ps) (suc i) zero d h before within = absurd (omega (arith, before))
in_order (p ∷ ps) (suc i) (suc j) d h before within = in_order ps i j d (above_rises p ps h) (omega (arith, before)) (omega (arith, within))

-- ---- whether a number is there

has_at : (ps : List ℕ) (p i : ℕ) → i < length ps → get_or ps i 0 ≡ p → has_number ps p ≡ true
has_at [] p i within is = absurd (omega (arith, within))
has_at (q ∷ ps) p zero within is = ap (λ t. t || has_number ps p) (eq-eqb q p is)
has_at (q ∷ ps) p (suc i) within is = later (eqb q p) (has_at ps p i (omega (arith, within)) is)
  where
    later : (b : Bool) → has_number ps p ≡ true → (b || has_number ps p) ≡ true
    later true h = refl
    later false h = h

none_at : (ps : List ℕ) (p : ℕ) → ((k : ℕ) → k < length ps → get_or ps k 0 ≢ p) → has_number ps p ≡ false
none_at [] p h = refl
none_at (q ∷ ps) p h = ap (λ t. t || has_number ps p) (ne_eqb q p (h 0 (omega arith))) ∙ none_at ps p (λ k within. h (suc k) (omega (arith, within)))

pub has_searched : (ps : List ℕ) (p : ℕ) (r : Result ℕ ℕ) → Rising ps → IsBinarySearchResult (λ y. nat_cmp y p) ps r → is_ok r ≡ has_number ps p
has_searched ps p (Ok i) h is = let f = searched ps p (Ok i) is (λ i j b w. in_order ps i j 0 h b w) in sym (has_at ps p i f.0 f.1)
has_searched ps p (Err i) h is =
    let f = searched ps p (Err i) is (λ i j b w. in_order ps i j 0 h b w) in
    sym (none_at ps p (λ k within same. elim (cases_lt k i) [
      | inl before ↦ let b = f.1 k before in omega (arith, b, same)
      | inr after ↦ let a = f.2 k after within in omega (arith, a, same)
    ]))

-- ---- bounds

-- those from a number on
pub from_point : (ps : List ℕ) (least i : ℕ) → i ≤ length ps → IsPartitionPoint (λ n. nat_lt n least ≡ true) (λ n. nat_lt n least ≡ false) ps i → drop i ps ≡ filter (λ n. nat_le least n) ps
from_point ps least i within point =
    back_is (λ n. nat_le least n) ps i within
    (λ k d h. lt-leb least (get_or ps k d) (ltb-true (get_or ps k d) least (point.0 k d (omega arith) h)))
    (λ k d h w. le-leb least (get_or ps k d) (ltb-false (get_or ps k d) least (point.1 k d h w)))

-- those up to a number
pub to_point : (ps : List ℕ) (most i : ℕ) → i ≤ length ps → IsPartitionPoint (λ n. nat_le n most ≡ true) (λ n. nat_le n most ≡ false) ps i → take i ps ≡ filter (λ n. nat_le n most) ps
to_point ps most i within point = front_is (λ n. nat_le n most) ps i within (λ k d h. point.0 k d (omega arith) h) (λ k d h w. point.1 k d h w)

pub from_and_to : (ps : List ℕ) (lo hi : ℕ) → filter (λ n. nat_le n hi) (filter (λ n. nat_le lo n) ps) ≡ filter (is_between_places lo hi) ps
from_and_to [] lo hi = refl
from_and_to (p ∷ ps) lo hi = go (from_and_to ps lo hi) (nat_le lo p)
  where
    go : filter (λ n. nat_le n hi) (filter (λ n. nat_le lo n) ps) ≡ filter (is_between_places lo hi) ps → (b : Bool) → filter (λ n. nat_le n hi) (cond b (p ∷ filter (λ n. nat_le lo n) ps) (filter (λ n. nat_le lo n) ps)) ≡ cond (b && nat_le p hi) (p ∷ filter (is_between_places lo hi) ps) (filter (is_between_places lo hi) ps)
    go rest true = ap (λ (l : List ℕ). cond (nat_le p hi) (p ∷ l) l) rest
    go rest false = rest
