use Rattle.std.specs.Prelude.{map}
use Rattle.pg_directory.specs.Leaves.{leaf_at}
use Rattle.pg_directory.proofs.LeafBuilds.{ArePartBuilt}
use Rattle.pg_directory.proofs.leaves.build_leaves.Given as goal

abbrev pub invariant-loop-i : goal.invariant-loop-i
invariant-loop-i l = ArePartBuilt l.places l.numbers l.i (map leaf_at l.leaves.items)
