use Rattle.std.proofs.Common.{◌≡◌, take}
use Rattle.std.specs.List.{filter_map}
use Rattle.db_change.specs.Inserting.{number_value}
use Rattle.db_change.proofs.inserting.numbers_in.Given as goal

abbrev pub invariant-loop-value : goal.invariant-loop-value
invariant-loop-value l = l.numbers.items ≡ filter_map number_value (take l.value-index l.values)
