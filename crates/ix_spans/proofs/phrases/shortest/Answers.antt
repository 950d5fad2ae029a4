use Rattle.std.proofs.Common.{◌≡◌, ◌<◌, None, length, get_or, rules, sym, ap, ◌∙◌}
use Rattle.ix_spans.specs.Slots.{is_shorter}
use Rattle.ix_spans.specs.Views.{slot_view, slots_view}
use Rattle.ix_spans.proofs.Viewing.{slot_read}
use Rattle.ix_spans.proofs.StartsBySlot.{least_stays, least_moves}
use Rattle.ix_spans.proofs.phrases.shortest.Goals as goal
use Rattle.ix_spans.proofs.phrases.shortest.Goals.{then-is_shorter, else-is_shorter}

pub loop-place-preserved : goal.loop-place-preserved
loop-place-preserved c =
    let here : c.loop-place.place < length c.args.slots.now = search rules in
    let place = slot_read c.args.slots.now c.loop-place.place c.index-slots-place.result here c.index-slots-place.is in
    let found = slot_read c.args.slots.now c.loop-place.found c.index-slots-found.result c.loop-place.invariant.within c.index-slots-found.is in
    let told : c.is_shorter.result ≡ is_shorter (get_or (slots_view c.args.slots.now) c.loop-place.place None) (get_or (slots_view c.args.slots.now) c.loop-place.found None) = c.is_shorter.ensures ∙ ap (λ s. is_shorter s (slot_view c.index-slots-found.result)) (sym place) ∙ ap (is_shorter (get_or (slots_view c.args.slots.now) c.loop-place.place None)) (sym found) in
    elim c.if-is_shorter.branch [
      | then-is_shorter w ↦ rw w.found-is (record { within = here; least = least_moves (slots_view c.args.slots.now) c.loop-place.place c.loop-place.found c.loop-place.invariant.least (sym told ∙ w.if-is_shorter.true) })
      | else-is_shorter w ↦ rw w.found-is (record { within = c.loop-place.invariant.within; least = least_stays (slots_view c.args.slots.now) c.loop-place.place c.loop-place.found c.loop-place.invariant.least (sym told ∙ w.if-is_shorter.false) })
    ]
