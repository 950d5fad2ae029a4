use Rattle.std.proofs.Common.{◌≡◌, ◌+◌, ℕ, List}
use Rattle.ct_keep.specs.Counting.{prefix_count}
use Rattle.pg_batch.specs.Counts.{comes}
use Rattle.pg_batch.proofs.Counted.{first_counted}
use Rattle.pg_batch.proofs.counting.count_new.Given as goal

abbrev pub invariant-loop-i : goal.invariant-loop-i
invariant-loop-i l = (p : List ℕ) → prefix_count p l.counts ≡ prefix_count p l.fn.counts + first_counted (comes p) l.i l.changes l.had
