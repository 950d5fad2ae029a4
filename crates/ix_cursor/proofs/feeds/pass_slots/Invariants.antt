use Rattle.std.proofs.Common.{◌≡◌, true}
use Rattle.ix_cursor.specs.MayScore.{may_fit}
use Rattle.ix_lists.specs.Seeking.{SameFrom, BoundsFrom}
use Rattle.ix_cursor.specs.Feeding.{slots_at, slot_at}
use Rattle.ix_cursor.specs.Passing.{slot_passed}
use Rattle.ix_cursor.proofs.Bounds.{all_first}
use Rattle.ix_cursor.proofs.feeds.pass_slots.Given as goal

abbrev pub invariant-loop-i : goal.invariant-loop-i
invariant-loop-i l = record {
  keeps : SameFrom l.to (slots_at l.initial.slots) (slots_at l.slots);
  passed : all_first (slot_passed l.to) l.i l.slots ≡ true;
  bound : BoundsFrom l.to (λ d. all_first (λ o. may_fit (slot_at o d)) l.i l.slots) l.bound;
}
