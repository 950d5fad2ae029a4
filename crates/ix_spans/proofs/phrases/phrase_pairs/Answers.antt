use Rattle.std.proofs.Common.{◌≡◌, ◌<◌, ◌++◌, None, OnOk, rules, append-nil, sym, ap, subst, ◌∙◌}
use Rattle.std.specs.List.{filter}
use Rattle.ix_spans.specs.Occurrences.{pairs_from, more_slots}
use Rattle.ix_spans.specs.Rising.{Rising, is_between_places, moved_back}
use Rattle.ix_spans.specs.Slots.{starts_at}
use Rattle.ix_spans.specs.Views.{slot_view, slots_view}
use Rattle.ix_spans.proofs.Viewing.{slot_read, views_length}
use Rattle.ix_spans.proofs.StartsBySlot.{rise_at, starts_by, starts_nowhere}
use Rattle.ix_spans.proofs.phrases.phrase_pairs.Goals as goal

pub returns-in_default-clause-ok : goal.returns-in_default-clause-ok
returns-in_default-clause-ok c =
    let none : c.index-slots-before.result ≡ None = search rules in
    let nowhere = starts_nowhere (slots_view c.args.slots.now) c.args.lo c.args.hi c.shortest-before.result c.shortest-before.ensures (slot_read c.args.slots.now c.shortest-before.result c.index-slots-before.result (subst (λ n. c.shortest-before.result < n) (views_length c.args.slots.now) c.shortest-before.ensures.within) c.index-slots-before.is ∙ ap slot_view none) in
    sym (append-nil c.args.out.now.items) ∙ ap (λ l. c.args.out.now.items ++ pairs_from (more_slots (slots_view c.args.slots.now)) l) (sym nowhere)

pub those_in-within-requires : goal.those_in-within-requires
those_in-within-requires c =
    let slot = slot_read c.args.slots.now c.shortest-before.result c.index-slots-before.result (subst (λ n. c.shortest-before.result < n) (views_length c.args.slots.now) c.shortest-before.ensures.within) c.index-slots-before.is ∙ ap slot_view c.in-Some.is in
    subst Rising (sym c.as_slice.ensures.value) (rise_at (slots_view c.args.slots.now) c.shortest-before.result c.in-Some.positions.items c.requires slot)

pub returns-else-is_err-clause-ok : goal.returns-else-is_err-clause-ok
returns-else-is_err-clause-ok c =
    let slot = slot_read c.args.slots.now c.shortest-before.result c.index-slots-before.result (subst (λ n. c.shortest-before.result < n) (views_length c.args.slots.now) c.shortest-before.ensures.within) c.index-slots-before.is ∙ ap slot_view c.in-Some.is in
    let within = c.those_in-within.ensures ∙ ap (filter (is_between_places c.args.lo c.args.hi)) c.as_slice.ensures.value in
    let all = ap (λ l. filter (starts_at (slots_view c.args.slots.now) c.args.lo c.args.hi) (moved_back c.shortest-before.result l)) within
    ∙ starts_by (slots_view c.args.slots.now) c.args.lo c.args.hi c.shortest-before.result c.in-Some.positions.items c.requires slot in
    subst (λ l. OnOk c.put_pairs-put.result (c.put_pairs-put.new.out.items ≡ c.args.out.now.items ++ pairs_from (more_slots (slots_view c.args.slots.now)) l)) all c.put_pairs-put.ensures.ok
