use Rattle.std.proofs.Common.{◌≡◌, ◌++◌, length}
use Rattle.db_change.specs.Updating.{updated_values}
use Rattle.db_change.proofs.noting.updated_values.Given as goal

abbrev pub invariant-loop-left : goal.invariant-loop-left
invariant-loop-left l = l.after.items ++ updated_values l.left l.assigns l.rest ≡ updated_values l.columns l.assigns l.values

abbrev pub decreases-loop-left : goal.decreases-loop-left
decreases-loop-left l = length l.left
