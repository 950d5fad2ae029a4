use Rattle.std.proofs.Common.{◌≡◌, length}
use denote.Text.{Utf8}
use denote.Shadow.{shadow}
use Rattle.tx_sets.specs.Columns.{columns_of}
use Rattle.tx_sets.proofs.ColumnSteps.{onto}
use Rattle.tx_sets.proofs.columns.read_columns.Given as goal

abbrev pub invariant-columns : goal.invariant-columns
invariant-columns l = record {
  is_text : shadow (Utf8 l.rest);
  so_far : onto l.names.items (columns_of l.rest) ≡ columns_of l.text;
}

abbrev pub decreases-columns : goal.decreases-columns
decreases-columns l = length l.rest
