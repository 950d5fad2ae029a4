use Rattle.std.proofs.Common.{◌≡◌, map, take}
use Rattle.db_select.specs.Sources.{column_source}
use Rattle.db_select.proofs.sources.column_sources.Given as goal

abbrev pub invariant-loop-column : goal.invariant-loop-column
invariant-loop-column l = l.sources.items ≡ map (column_source l.columns) (take l.column-index l.columns)
