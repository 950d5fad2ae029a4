use Rattle.std.proofs.Common.{◌≡◌, ◌+◌, drop}
use Rattle.db_hits.specs.Rows.{index_in}
use Rattle.db_hits.proofs.ordering.index_in.Given as goal

abbrev pub invariant-loop-place : goal.invariant-loop-place
invariant-loop-place l = l.place + index_in l.name (drop l.place l.names) ≡ index_in l.name l.names
