use Rattle.std.proofs.Common.{◌≡◌, ◌≤◌, length}
use Rattle.q_lex.specs.Words.{tenths_within, tenths_from}
use Rattle.q_lex.proofs.words.tenths_at_most.Given as goal

abbrev pub invariant-loop-rest : goal.invariant-loop-rest
invariant-loop-rest l = record {
  so_far : tenths_within (tenths_from l.number l.rest) ≡ tenths_within (tenths_from 0 l.bytes);
  small : l.number ≤ 10;
}

abbrev pub decreases-loop-rest : goal.decreases-loop-rest
decreases-loop-rest l = length l.rest
