use Rattle.std.proofs.Common.{◌≡◌}
use Rattle.ix_lists.specs.Seeking.{SameFrom}
use Rattle.ix_cursor.specs.Feeding.{term_at, operands_at}
use Rattle.ix_cursor.specs.Seen.{seen_term}
use Rattle.ix_cursor.proofs.Mixing.{mixed}
use Rattle.ix_cursor.proofs.seeing.see_operands.Given as goal

abbrev pub invariant-loop-i : goal.invariant-loop-i
invariant-loop-i l = record {
  keeps : SameFrom 0 (operands_at l.initial.operands) (operands_at l.operands);
  seen : mixed (λ p. seen_term p) (λ p. term_at p l.document) l.i l.operands ≡ operands_at l.initial.operands l.document;
}
