use Rattle.std.proofs.Common.{◌≡◌, drop}
use Rattle.std.specs.List.{list_any}
use Rattle.ct_entry.specs.Keys.{same_list}
use Rattle.db_change.specs.Updating.{assign_columns}
use Rattle.db_change.proofs.assigning.is_set.Given as goal

abbrev pub invariant-loop-assign : goal.invariant-loop-assign
invariant-loop-assign l = list_any (same_list l.name) (assign_columns (drop l.assign-index l.assigns)) ≡ list_any (same_list l.name) (assign_columns l.assigns)
