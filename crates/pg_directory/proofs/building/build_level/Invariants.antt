use Rattle.std.specs.Prelude.{map}
use Rattle.pg_directory.specs.Building.{above_of}
use Rattle.pg_directory.proofs.Builds.{IsPartBuilt}
use Rattle.pg_directory.proofs.building.build_level.Given as goal

abbrev pub invariant-loop-i : goal.invariant-loop-i
invariant-loop-i l = IsPartBuilt l.level l.below l.numbers l.i (map above_of l.pages.items)
