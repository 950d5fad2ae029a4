use Rattle.std.proofs.Common.{◌≤◌, length, drop}
use Rattle.ix_cursor.proofs.Counting.{AreThose}
use Rattle.ix_cursor.proofs.scoring.count_distinct.Given as goal

abbrev pub invariant-loop-left : goal.invariant-loop-left
invariant-loop-left l = record {
  those : AreThose l.found.items (drop l.left l.pairs);
  within : l.left ≤ length l.pairs;
}

abbrev pub decreases-loop-left : goal.decreases-loop-left
decreases-loop-left l = l.left
