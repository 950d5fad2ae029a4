-- The order of places.
use Rattle.std.proofs.Common.{◌≡◌, ℕ, true, false, List, refl, sym, ap, ◌∙◌}
use Rattle.std.specs.Ordering.{nat_cmp, is_lt, is_eq}
use Rattle.std.specs.Cmp.Lexicographic.{slice_cmp}
use Rattle.std.proofs.lemmas.Cmp.{nat_list_cmp_total, tied_itself}
use Rattle.std.proofs.lemmas.Map.Lookups.{exact_bytes}
use Rattle.ct_base.specs.laws.Orders.{equal_from_test, less_from_test, less_back}
use Rattle.cat_walk.specs.Places.{comes_before}

pub before_then : (a b c : List ℕ) → comes_before a b ≡ true → comes_before b c ≡ true → comes_before a c ≡ true
before_then a b c first second = ap is_lt (nat_list_cmp_total.trans a b c (less_from_test _ first) (less_from_test _ second))

pub place_itself : (a : List ℕ) → comes_before a a ≡ false
place_itself a = ap is_lt (tied_itself nat_list_cmp_total a)

-- a place comes before another, behind it, or is it
pub same_place : (a b : List ℕ) → comes_before a b ≡ false → comes_before b a ≡ false → a ≡ b
same_place a b not_here not_back = elim (is_eq (slice_cmp nat_cmp a b)) as (λ t. is_eq (slice_cmp nat_cmp a b) ≡ t → a ≡ b) [
  | true ↦ λ t. exact_bytes a b (equal_from_test _ t)
  | false ↦ λ t. no_way (sym not_back ∙ less_back (slice_cmp nat_cmp a b) (slice_cmp nat_cmp b a) (nat_list_cmp_total.antisymm b a) not_here t)
] refl
  where
    no_way : false ≡ true → a ≡ b
    no_way e = cc
