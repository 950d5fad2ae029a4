use Rattle.std.proofs.Common.{◌≡◌, length}
use Rattle.db_change.specs.Updating.{assign_columns, has_twice}
use Rattle.db_change.proofs.assigning.has_twice.Given as goal

abbrev pub invariant-loop-rest : goal.invariant-loop-rest
invariant-loop-rest l = has_twice (assign_columns l.rest) ≡ has_twice (assign_columns l.assigns)

abbrev pub decreases-loop-rest : goal.decreases-loop-rest
decreases-loop-rest l = length l.rest
