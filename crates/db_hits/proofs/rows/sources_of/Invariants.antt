use Rattle.std.proofs.Common.{◌≡◌, take}
use Rattle.db_hits.specs.Rows.{sources_of}
use Rattle.db_hits.proofs.rows.sources_of.Given as goal

abbrev pub invariant-loop-name : goal.invariant-loop-name
invariant-loop-name l = l.sources.items ≡ sources_of l.columns (take l.name-index l.names)
