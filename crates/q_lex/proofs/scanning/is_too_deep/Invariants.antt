use Rattle.std.proofs.Common.{◌≡◌, ◌≤◌, length}
use Rattle.q_lex.specs.Lexing.{too_deep}
use Rattle.q_lex.proofs.scanning.is_too_deep.Given as goal

abbrev pub invariant-loop-rest : goal.invariant-loop-rest
invariant-loop-rest l = record {
  so_far : too_deep l.depth l.rest ≡ too_deep 0 l.lexemes;
  small : l.depth ≤ 32;
}

abbrev pub decreases-loop-rest : goal.decreases-loop-rest
decreases-loop-rest l = length l.rest
