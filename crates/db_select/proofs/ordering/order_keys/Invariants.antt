use Rattle.std.proofs.Common.{◌≡◌, ◌++◌, drop}
use Rattle.db_select.specs.Ordering.{keys_from}
use Rattle.db_select.proofs.ordering.order_keys.Given as goal

abbrev pub invariant-loop-place : goal.invariant-loop-place
invariant-loop-place l = l.keys.items ++ keys_from l.place (drop l.place l.orders) ≡ keys_from 0 l.orders
