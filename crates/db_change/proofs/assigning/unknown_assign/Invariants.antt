use Rattle.std.proofs.Common.{◌≡◌, drop}
use Rattle.db_state.specs.Columns.{first_unknown}
use Rattle.db_change.specs.Updating.{assign_columns}
use Rattle.db_change.proofs.assigning.unknown_assign.Given as goal

abbrev pub invariant-loop-assign : goal.invariant-loop-assign
invariant-loop-assign l = first_unknown (assign_columns (drop l.assign-index l.assigns)) l.columns ≡ first_unknown (assign_columns l.assigns) l.columns
