use Rattle.std.proofs.Common.{take, ◌∙◌, sym, ap, ◌+◌, arith}
use Rattle.q_reduce.proofs.TrimmedSlots.{end_here, end_before}
use Rattle.q_reduce.proofs.phrases.end.Goals as goal
use Rattle.q_reduce.proofs.phrases.end.Goals.{then-takes_some, else-takes_some}

pub loop-slot-preserved : goal.loop-slot-preserved
loop-slot-preserved c =
    let slots = c.args.slots.now in
    let i = c.loop-slot.slot-index in
    let s = c.slot-item.result in
    let place = ap (λ n. n + 1) c.loop-slot.invariant.place in
    elim c.if-takes_some.branch [
      | then-takes_some w ↦ record {
        place = place;
        within = omega (arith, w.end-is);
        so_far = end_here slots i c.if-takes_some.end s c.loop-slot-test.true c.slot-item.is (sym c.takes_some.ensures ∙ w.if-takes_some.true) (w.end-is ∙ place);
      }
      | else-takes_some w ↦ record {
        place = place;
        within = omega (arith, w.end-is, c.loop-slot.invariant.within);
        so_far = end_before slots i c.if-takes_some.end s c.loop-slot-test.true c.slot-item.is (sym c.takes_some.ensures ∙ w.if-takes_some.false) (ap (λ n. take n slots) w.end-is ∙ c.loop-slot.invariant.so_far);
      }
    ]
