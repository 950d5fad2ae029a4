use Rattle.std.proofs.Common.{◌≡◌, true}
use Rattle.ix_cursor.specs.MayScore.{may_match}
use Rattle.ix_lists.specs.Seeking.{SameFrom, BoundsFrom}
use Rattle.ix_cursor.specs.Feeding.{operands_at, term_at}
use Rattle.ix_cursor.specs.Passing.{term_passed}
use Rattle.ix_cursor.proofs.Bounds.{all_first}
use Rattle.ix_cursor.proofs.feeds.pass_operands.Given as goal

abbrev pub invariant-loop-i : goal.invariant-loop-i
invariant-loop-i l = record {
  keeps : SameFrom l.to (operands_at l.initial.operands) (operands_at l.operands);
  passed : all_first (term_passed l.to) l.i l.operands ≡ true;
  bound : BoundsFrom l.to (λ d. all_first (λ o. may_match (term_at o d)) l.i l.operands) l.bound;
}
