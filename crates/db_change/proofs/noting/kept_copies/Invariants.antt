use Rattle.std.proofs.Common.{◌≡◌, map, take}
use Rattle.db_change.specs.Inserting.{kept_value}
use Rattle.db_change.proofs.noting.kept_copies.Given as goal

abbrev pub invariant-loop-value : goal.invariant-loop-value
invariant-loop-value l = l.kept.items ≡ map kept_value (take l.value-index l.values)
