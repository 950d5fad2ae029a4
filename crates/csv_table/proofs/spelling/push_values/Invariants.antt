use Rattle.std.proofs.Common.{◌≡◌, ◌++◌, length}
use Rattle.csv_table.specs.Spelling.{list_end, value_texts}
use Rattle.csv_table.proofs.spelling.push_values.Given as goal

abbrev pub invariant-values : goal.invariant-values
invariant-values l = l.out.items ++ list_end (value_texts l.columns l.fields) ≡ l.fn.out.items ++ list_end (value_texts l.fn.columns l.fn.fields)

abbrev pub decreases-values : goal.decreases-values
decreases-values l = length l.columns
