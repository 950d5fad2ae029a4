use Rattle.std.proofs.Common.{◌≤◌, ◌+◌}
use Rattle.pg_change.proofs.rebuilding.upper_count.Given as goal

abbrev pub invariant-loop-level : goal.invariant-loop-level
invariant-loop-level l = (l.count + l.level ≤ l.leaves) × (1 ≤ l.leaves → 1 ≤ l.level)

abbrev pub decreases-loop-level : goal.decreases-loop-level
decreases-loop-level l = l.level
