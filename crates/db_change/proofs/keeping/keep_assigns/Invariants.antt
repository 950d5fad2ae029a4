use Rattle.std.proofs.Common.{take}
use Rattle.std.specs.List.{All}
use Rattle.db_change.specs.Updating.{IsKeptAssign}
use Rattle.db_change.proofs.keeping.keep_assigns.Given as goal

abbrev pub invariant-loop-assign : goal.invariant-loop-assign
invariant-loop-assign l = All IsKeptAssign (take l.assign-index l.assigns)
