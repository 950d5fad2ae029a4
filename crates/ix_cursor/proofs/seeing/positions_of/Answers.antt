use Rattle.std.proofs.Common.{drop, sym, subst}
use Rattle.ix_spans.specs.Slots.{SlotsRise}
use Rattle.ix_spans.specs.Views.{slots_view}
use Rattle.ix_cursor.specs.Feeding.{slots_at}
use Rattle.ix_cursor.proofs.Slotting.{slots_rise, first_slots_rise}
use Rattle.ix_cursor.proofs.seeing.positions_of.Goals as goal

pub returns-clause-rise : goal.returns-clause-rise
returns-clause-rise c =
    let seen = slots_view c.loop-slot.out.items in
    let left = slots_at (drop c.loop-slot.slot-index c.args.slots.now) c.args.document in
    first_slots_rise seen left (subst SlotsRise (sym c.loop-slot.invariant) (slots_rise c.args.slots.now c.args.document))
