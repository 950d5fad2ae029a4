use Rattle.std.specs.Prelude.{map}
use Rattle.std.proofs.Common.{length}
use Rattle.pg_directory.specs.Building.{above_of}
use Rattle.pg_directory.proofs.Layers.{AreLayered}
use Rattle.pg_directory.proofs.layering.build_levels.Given as goal

abbrev pub invariant-loop-alloc : goal.invariant-loop-alloc
invariant-loop-alloc l = AreLayered l.leaves l.numbers l.level l.below.items (map above_of l.pages.items) l.inner.items

abbrev pub decreases-loop-alloc : goal.decreases-loop-alloc
decreases-loop-alloc l = length l.below.items
