use Rattle.std.specs.Prelude.{map}
use Rattle.std.proofs.Common.{◌≡◌, take}
use Rattle.pg_directory.specs.Building.{above_of, child_of}
use Rattle.pg_directory.proofs.building.children_of.Given as goal

abbrev pub invariant-loop-i : goal.invariant-loop-i
invariant-loop-i l = l.children.items ≡ map child_of (map above_of (take l.i l.pages))
