use Rattle.std.proofs.Common.{◌∙◌, ap, sym}
use Rattle.ix_cursor.specs.Feeding.{slot_at}
use Rattle.ix_cursor.specs.MayScore.{may_fit}
use Rattle.ix_cursor.specs.Passing.{slot_passed}
use Rattle.ix_cursor.proofs.Bounds.{all_more, all_end, all_true, all_same}
use Rattle.ix_cursor.proofs.Slotting.{slots_set}
use Rattle.ix_cursor.proofs.feeds.pass_slots.Goals as goal

pub loop-i-preserved : goal.loop-i-preserved
loop-i-preserved c =
    let slots = c.loop-i.slots in
    let i = c.loop-i.i in
    let new = c.pass_slot.new.slot in
    record {
      keeps = λ d le. slots_set slots i new c.index-slots-i.result d c.index-slots-i.is (c.in_ok-pass_slot.ensures.keeps d le ∙ ap (λ o. slot_at o d) (sym c.index-slots-i.is)) ∙ c.loop-i.invariant.keeps d le;
      passed = all_true (slot_passed c.args.to) slots i new (rw c.loop-i.auto.slots c.loop-i-test.true) c.loop-i.invariant.passed (c.in_ok-pass_slot.ensures.passed);
      bound = rw c.later-bound.ensures (all_more c.args.to (λ d x. may_fit (slot_at x d)) slots i new c.loop-i.bound c.in_ok-pass_slot.field-0 (rw c.loop-i.auto.slots c.loop-i-test.true) c.loop-i.invariant.bound c.in_ok-pass_slot.ensures.bound);
    }

pub returns-clause-bound : goal.returns-clause-bound
returns-clause-bound c = all_end c.args.to may_fit (λ d x. slot_at x d) c.loop-i.slots c.loop-i.i c.loop-i.bound (rw c.loop-i.auto.slots c.loop-i-test.false) c.loop-i.invariant.bound

pub returns-clause-passed : goal.returns-clause-passed
returns-clause-passed c = all_same (slot_passed c.args.to) c.loop-i.slots c.loop-i.i (rw c.loop-i.auto.slots c.loop-i-test.false) ∙ c.loop-i.invariant.passed
