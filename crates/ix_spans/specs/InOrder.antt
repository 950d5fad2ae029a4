-- The pairs of an operand in the order of their starts, and operands that have the same pairs in any order.
use Rattle.std.specs.Prelude.{◌≡◌, ◌≤◌, false, List, [], ◌∷◌, refl}
use Rattle.std.specs.List.Sorted.{IsNonDecreasingBy}
use Rattle.std.proofs.Common.{arith}
use Rattle.ct_base.specs.declared.numbers.Pair.{Pair}
use Rattle.ix_spans.specs.Occurrences.{has_pair}

-- the starts never fall; pairs that start together stand in any order
abbrev pub StartsInOrder : List Pair → Type 0
StartsInOrder ps = IsNonDecreasingBy (λ (p : Pair). p.first) ps

-- they never fall in any of the operands
abbrev pub EachInOrder : List (List Pair) → Type 0
EachInOrder [] = Unit {0}
EachInOrder (o ∷ os) = StartsInOrder o × EachInOrder os

-- each pair is in both lists, or in neither
abbrev pub SamePairs : List Pair → List Pair → Type 0
SamePairs ps qs = (p : Pair) → has_pair ps p ≡ has_pair qs p

-- so many operands, and each has the pairs of the other's
abbrev pub EachSame : List (List Pair) → List (List Pair) → Type 0
EachSame [] [] = Unit {0}
EachSame [] (q ∷ qs) = ⊥
EachSame (o ∷ os) [] = ⊥
EachSame (o ∷ os) (q ∷ qs) = SamePairs o q × EachSame os qs

-- computed examples
first_starts_first : (p q : Pair) → StartsInOrder (p ∷ q ∷ []) → p.first ≤ q.first
first_starts_first p q h = h 0 1 p (omega arith) (omega arith)

not_there : has_pair (record { first = 1; last = 2 } ∷ record { first = 4; last = 4 } ∷ []) (record { first = 1; last = 1 }) ≡ false
not_there = refl
