use Rattle.std.proofs.Common.{◌≡◌, take}
use Rattle.db_hits.specs.Rows.{names_of}
use Rattle.db_hits.proofs.rows.names_of.Given as goal

abbrev pub invariant-loop-column : goal.invariant-loop-column
invariant-loop-column l = l.names.items ≡ names_of l.parts (take l.column-index l.columns)
