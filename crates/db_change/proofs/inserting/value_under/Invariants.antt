use Rattle.std.proofs.Common.{◌≡◌, drop}
use Rattle.db_change.specs.Inserting.{value_under}
use Rattle.db_change.proofs.inserting.value_under.Given as goal

abbrev pub invariant-loop-place : goal.invariant-loop-place
invariant-loop-place l = value_under l.name (drop l.place l.names) (drop l.place l.values) ≡ value_under l.name l.names l.values
