use Rattle.std.specs.Prelude.{map}
use Rattle.std.proofs.Common.{◌≡◌, ◌∷◌, ◌++◌, take}
use Rattle.pg_directory.specs.Building.{above_of, numbers_of}
use Rattle.pg_directory.specs.Leaves.{leaf_at, leaf_numbers}
use Rattle.pg_heap.proofs.directing.numbers_of.Given as goal

abbrev pub invariant-loop-leaf : goal.invariant-loop-leaf
invariant-loop-leaf l = l.numbers.items ≡ 2 ∷ leaf_numbers (map leaf_at (take l.leaf-index l.fn.made.leaves.items))

abbrev pub invariant-loop-page : goal.invariant-loop-page
invariant-loop-page l = l.numbers.items ≡ (2 ∷ leaf_numbers (map leaf_at l.fn.made.leaves.items)) ++ numbers_of (map above_of (take l.page-index l.fn.made.upper.items))
