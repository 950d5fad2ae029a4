use Rattle.std.proofs.Common.{◌≡◌, length}
use Rattle.ix_spans.specs.Occurrences.{has_pair}
use Rattle.ix_cursor.proofs.scoring.has_pair.Given as goal

abbrev pub invariant-loop-rest : goal.invariant-loop-rest
invariant-loop-rest l = has_pair l.rest l.pair ≡ has_pair l.pairs l.pair

abbrev pub decreases-loop-rest : goal.decreases-loop-rest
decreases-loop-rest l = length l.rest
