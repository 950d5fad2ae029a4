-- Queries as they are reduced for an index, without where their parts lie in memory.
use Rattle.std.specs.Prelude.{ℕ, ◌≡◌, Bool, false, List, refl}
use Rattle.q_tree.specs.declared.flats.Slot.{Slot}
use Rattle.q_tree.specs.declared.flats.Place.{Place}
use Rattle.q_tree.specs.declared.flats.SumStep.{SumStep}
use Rattle.q_tree.specs.declared.flats.Flat.{Flat}
use Rattle.q_tree.specs.declared.flats.Flat.TheVariants.{Term as FlatTerm, And' as FlatAnd, Or' as FlatOr, Not' as FlatNot, Minus' as FlatMinus, Weight' as FlatWeight, Above' as FlatAbove, Near as FlatNear, Within' as FlatWithin, Define as FlatDefine}
use Rattle.q_tree.specs.declared.queries.Op.{Op}
use Rattle.q_tree.specs.declared.queries.Op.TheVariants.{Or, And, Not, Minus}

-- A reduced query: terms, that is, lists of phrases; and the same operators over them.
pub data Reduced : Type 0 where
  Term : List (List Slot) → Reduced
  Both : Op → Reduced → Reduced → Reduced
  Weight : ℕ → Reduced → Reduced
  Above : ℕ → Reduced → Reduced
  Near : List (List (List Slot)) → ℕ → Bool → Reduced
  Within : Place → Reduced → Reduced
  Define : List (List Slot) → List SumStep → Reduced

abbrev pub reduced_of : Flat → Reduced
reduced_of (FlatTerm phrases) = Term phrases
reduced_of (FlatAnd p a q b) = Both And (reduced_of a) (reduced_of b)
reduced_of (FlatOr p a q b) = Both Or (reduced_of a) (reduced_of b)
reduced_of (FlatNot p a q b) = Both Not (reduced_of a) (reduced_of b)
reduced_of (FlatMinus p a q b) = Both Minus (reduced_of a) (reduced_of b)
reduced_of (FlatWeight n p a) = Weight n (reduced_of a)
reduced_of (FlatAbove n p a) = Above n (reduced_of a)
reduced_of (FlatNear operands span ordered) = Near operands span ordered
reduced_of (FlatWithin place p a) = Within place (reduced_of a)
reduced_of (FlatDefine phrases sum) = Define phrases sum

-- ---- computed examples

flat_near : (operands : List (List (List Slot))) → reduced_of (FlatNear operands 5 false) ≡ Near operands 5 false
flat_near operands = refl

-- DEFINESCORE
with_its_sum : (phrases : List (List Slot)) (sum : List SumStep) → reduced_of (FlatDefine phrases sum) ≡ Define phrases sum
with_its_sum phrases sum = refl
