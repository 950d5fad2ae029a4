use Rattle.std.proofs.Common.{◌≡◌, ◌++◌, map}
use Rattle.ct_entry.specs.Changes.{spell}
use Rattle.ix_rows.specs.RowMaps.{row_changes, seen_row}
use Rattle.ix_rows.proofs.row_maps.put_rows.Given as goal

abbrev pub invariant-loop-row : goal.invariant-loop-row
invariant-loop-row l = l.batch ++ spell (row_changes l.fn.kind l.fn.index l.fn.term (map seen_row l.row-iterator.rest.items)) ≡ l.fn.batch ++ spell (row_changes l.fn.kind l.fn.index l.fn.term (map seen_row l.initial.row-iterator.rest.items))
