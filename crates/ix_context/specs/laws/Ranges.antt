-- The range of all row keys has every one.
use Rattle.std.proofs.Common.{◌≡◌, ℤ, pos, negsuc, ◌<ℤ◌, ◌-◌, ◌^◌, true, refl, subst, arith}
use Rattle.std.specs.Prelude.{not}
use Rattle.std.specs.declared.cmp.Ordering.{Ordering}
use Rattle.std.specs.declared.cmp.Ordering.TheVariants.{Less, Equal, Greater}
use Rattle.std.specs.Ordering.{int_cmp, is_lt, MatchOrdering}
use Rattle.std.specs.Cmp.{int_ranks}
use Rattle.std.proofs.lemmas.Int.{ints}
use Rattle.std.proofs.lemmas.Bool.{and_from}
use Rattle.ct_entry.specs.Keys.{IsRow}
use Rattle.ix_context.specs.declared.ranges.KeyRange.{KeyRange}
use Rattle.ix_context.specs.Indexes.{HasAllRows}

not_less : (a b : ℤ) → (a <ℤ b → ⊥) → not (is_lt (int_cmp a b)) ≡ true
not_less a b never = go (int_cmp a b) (int_ranks a b)
  where
    go : (o : Ordering) → MatchOrdering o (a <ℤ b) (a ≡ b) (b <ℤ a) → not (is_lt o) ≡ true
    go Less h = absurd (never h)
    go Equal h = refl
    go Greater h = refl

least_below : (r : ℤ) → IsRow r → r <ℤ negsuc (2 ^ 63 - 1) → ⊥
least_below (pos n) row less = absurd (omega (arith, ints, less))
least_below (negsuc n) row less = absurd (omega (arith, ints, less, row))

greatest_above : (r : ℤ) → IsRow r → pos (2 ^ 63 - 1) <ℤ r → ⊥
greatest_above (pos n) row less = absurd (omega (arith, ints, less, row))
greatest_above (negsuc n) row less = absurd (omega (arith, ints, less))

pub whole_range : (range : KeyRange) → range.from.0 ≡ negsuc (2 ^ 63 - 1) → range.to.0 ≡ pos (2 ^ 63 - 1) → HasAllRows range
whole_range range least greatest r row = and_from _ _
    (not_less r range.from.0 (λ less. least_below r row (subst (λ (z : ℤ). r <ℤ z) least less)))
    (not_less range.to.0 r (λ less. greatest_above r row (subst (λ (z : ℤ). z <ℤ r) greatest less)))
