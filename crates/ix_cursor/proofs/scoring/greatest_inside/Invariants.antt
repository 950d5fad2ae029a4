use Rattle.std.proofs.Common.{◌≡◌, max, length}
use Rattle.ix_cursor.specs.Seen.{greatest_inside}
use Rattle.ix_cursor.proofs.scoring.greatest_inside.Given as goal

abbrev pub invariant-loop-rest : goal.invariant-loop-rest
invariant-loop-rest l = max l.greatest (greatest_inside l.lo l.hi l.rest l.scores) ≡ greatest_inside l.lo l.hi l.pairs l.fn.scores

abbrev pub decreases-loop-rest : goal.decreases-loop-rest
decreases-loop-rest l = length l.rest
