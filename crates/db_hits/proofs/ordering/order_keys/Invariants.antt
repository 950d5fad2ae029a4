use Rattle.std.proofs.Common.{◌++◌, drop, map}
use Rattle.db_hits.specs.Rows.{OrderAlike, key_by}
use Rattle.db_hits.proofs.ordering.order_keys.Given as goal

abbrev pub invariant-loop-key : goal.invariant-loop-key
invariant-loop-key l = OrderAlike (l.found.items ++ map (key_by l.names) (drop l.key-index l.keys)) (map (key_by l.names) l.keys)
