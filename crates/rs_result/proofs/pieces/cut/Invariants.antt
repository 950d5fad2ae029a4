use Rattle.std.proofs.Common.{length}
use Rattle.rs_result.proofs.Cuts.{IsUncut}
use Rattle.rs_result.proofs.pieces.cut.Given as goal

abbrev pub invariant-loop-lexeme : goal.invariant-loop-lexeme
invariant-loop-lexeme l = IsUncut l.separator l.lexemes l.rest

abbrev pub decreases-loop-lexeme : goal.decreases-loop-lexeme
decreases-loop-lexeme l = length l.rest
