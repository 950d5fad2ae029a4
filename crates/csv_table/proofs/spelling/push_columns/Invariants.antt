use Rattle.std.proofs.Common.{◌≡◌, ◌++◌, length, map}
use Rattle.csv_table.specs.Spelling.{column_text, list_end}
use Rattle.csv_table.proofs.spelling.push_columns.Given as goal

abbrev pub invariant-columns : goal.invariant-columns
invariant-columns l = l.out.items ++ list_end (map column_text l.rest) ≡ l.fn.out.items ++ list_end (map column_text l.fn.columns)

abbrev pub decreases-columns : goal.decreases-columns
decreases-columns l = length l.rest
