use Rattle.std.proofs.Common.{◌≡◌, take}
use Rattle.std.specs.List.{filter_map}
use Rattle.db_change.specs.Updating.{number_set}
use Rattle.db_change.proofs.updating.numbers_set.Given as goal

abbrev pub invariant-loop-column : goal.invariant-loop-column
invariant-loop-column l = l.set.items ≡ filter_map (number_set l.assigns) (take l.column-index l.columns)
