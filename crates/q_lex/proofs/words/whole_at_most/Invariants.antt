use Rattle.std.proofs.Common.{◌≡◌, ◌≤◌, length}
use Rattle.q_lex.specs.Words.{within, whole_from}
use Rattle.q_lex.proofs.words.whole_at_most.Given as goal

abbrev pub invariant-loop-rest : goal.invariant-loop-rest
invariant-loop-rest l = record {
  so_far : within l.high (whole_from l.number l.rest) ≡ within l.high (whole_from 0 l.bytes);
  small : l.number ≤ l.high;
}

abbrev pub decreases-loop-rest : goal.decreases-loop-rest
decreases-loop-rest l = length l.rest
