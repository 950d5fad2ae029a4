use Rattle.std.proofs.Common.{◌≤◌, ◌-◌, length}
use Rattle.tb_table.proofs.ColumnSteps.{AreRead}
use Rattle.tb_table.proofs.reading.read_columns.Given as goal

abbrev pub invariant-columns : goal.invariant-columns
invariant-columns l = AreRead l.bytes l.start l.at l.columns.items × (length l.columns.items ≤ l.count)

abbrev pub decreases-columns : goal.decreases-columns
decreases-columns l = l.count - length l.columns.items
