-- Queries as they are written, without where their parts lie in memory.
use Rattle.std.specs.Prelude.{ℕ, ◌≡◌, Bool, true, List, refl}
use Rattle.q_tree.specs.declared.flats.SumStep.{SumStep}
use Rattle.q_tree.specs.declared.queries.Leaf.{Leaf}
use Rattle.q_tree.specs.declared.queries.Op.{Op}
use Rattle.q_tree.specs.declared.queries.Op.TheVariants.{Or, And, Not, Minus}
use Rattle.q_tree.specs.declared.queries.Query.{Query}
use Rattle.q_tree.specs.declared.queries.Query.TheVariants.{Leaf as LeafQuery, And' as AndQuery, Or' as OrQuery, Not' as NotQuery, Minus' as MinusQuery, Weight' as WeightQuery, Above' as AboveQuery, Near as NearQuery, Within' as WithinQuery, Define as DefineQuery}

-- A query as it is written: leaves, two queries with an operator between, a weight in tenths, a number that the score has to be
-- above, operands near one another with a span and whether they are ordered, a part in a section, and operands with the sum that
-- their score is.
pub data Tree : Type 0 where
  Single : Leaf → Tree
  Both : Op → Tree → Tree → Tree
  Weight : ℕ → Tree → Tree
  Above : ℕ → Tree → Tree
  Near : List (List Leaf) → ℕ → Bool → Tree
  Within : List ℕ → Tree → Tree
  Define : List Leaf → List SumStep → Tree

abbrev pub tree_of : Query → Tree
tree_of (LeafQuery p) = Single p
tree_of (AndQuery p a q b) = Both And (tree_of a) (tree_of b)
tree_of (OrQuery p a q b) = Both Or (tree_of a) (tree_of b)
tree_of (NotQuery p a q b) = Both Not (tree_of a) (tree_of b)
tree_of (MinusQuery p a q b) = Both Minus (tree_of a) (tree_of b)
tree_of (WeightQuery n p a) = Weight n (tree_of a)
tree_of (AboveQuery n p a) = Above n (tree_of a)
tree_of (NearQuery ops span ordered) = Near ops span ordered
tree_of (WithinQuery name p a) = Within name (tree_of a)
tree_of (DefineQuery ps steps) = Define ps steps

-- ---- computed examples

-- NEAR((a,b),5,TRUE), of any operands
ordered_near : (operands : List (List Leaf)) → tree_of (NearQuery operands 5 true) ≡ Near operands 5 true
ordered_near operands = refl
