use Rattle.std.proofs.Common.{◌≡◌, ◌++◌, length}
use Rattle.csv_table.specs.Tables.{columns_from}
use Rattle.csv_table.proofs.rows.columns_of.Given as goal

abbrev pub invariant-loop-name : goal.invariant-loop-name
invariant-loop-name l = l.columns.items ++ columns_from (length l.columns.items) l.name-iterator.rest.items l.rows ≡ columns_from 0 l.fn.names.items l.rows
