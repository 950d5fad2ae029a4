use Rattle.std.specs.Prelude.{map}
use Rattle.std.proofs.Common.{◌≡◌, take}
use Rattle.pg_directory.specs.Leaves.{leaf_at, leaf_child}
use Rattle.pg_directory.proofs.leaves.children_of_leaves.Given as goal

abbrev pub invariant-loop-i : goal.invariant-loop-i
invariant-loop-i l = l.children.items ≡ map leaf_child (map leaf_at (take l.i l.leaves))
