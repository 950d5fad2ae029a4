use Rattle.std.proofs.Common.{◌≤◌, ◌-◌, length, take}
use Rattle.pg_change.proofs.RestingSteps.{RestsSo}
use Rattle.pg_change.proofs.resting.resting_sheets.Given as goal

abbrev pub invariant-loop-sheets : goal.invariant-loop-sheets
invariant-loop-sheets l = record {
  few : length l.sheets.items ≤ l.count;
  passed : l.next ≤ length l.free;
  rests : RestsSo l.sheets.items (take l.next l.free);
}

abbrev pub decreases-loop-sheets : goal.decreases-loop-sheets
decreases-loop-sheets l = l.count - length l.sheets.items
