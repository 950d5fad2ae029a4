use Rattle.pg_heap.proofs.DirectCommits.{RiseOn}
use Rattle.pg_heap.proofs.directing.are_rising.Given as goal

abbrev pub invariant-loop-i : goal.invariant-loop-i
invariant-loop-i l = RiseOn l.places l.end l.i l.low
