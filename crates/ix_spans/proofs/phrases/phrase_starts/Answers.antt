use Rattle.std.proofs.Common.{◌≡◌, ◌<◌, ◌++◌, OnOk, sym, ap, subst, ◌∙◌}
use Rattle.std.specs.List.{filter}
use Rattle.ix_spans.specs.Rising.{Rising, is_between_places, moved_back}
use Rattle.ix_spans.specs.Slots.{starts_at}
use Rattle.ix_spans.specs.Views.{slot_view, slots_view}
use Rattle.ix_spans.proofs.Viewing.{slot_read, views_length}
use Rattle.ix_spans.proofs.StartsBySlot.{rise_at, starts_by}
use Rattle.ix_spans.proofs.phrases.phrase_starts.Goals as goal

pub those_in-within-requires : goal.those_in-within-requires
those_in-within-requires c =
    let slot = slot_read c.args.slots.now c.shortest-before.result c.index-slots-before.result (subst (λ n. c.shortest-before.result < n) (views_length c.args.slots.now) c.shortest-before.ensures.within) c.index-slots-before.is ∙ ap slot_view c.in-Some.is in
    subst Rising (sym c.as_slice.ensures.value) (rise_at (slots_view c.args.slots.now) c.shortest-before.result c.in-Some.positions.items c.requires slot)

pub returns-else-is_err-clause-ok : goal.returns-else-is_err-clause-ok
returns-else-is_err-clause-ok c =
    let slot = slot_read c.args.slots.now c.shortest-before.result c.index-slots-before.result (subst (λ n. c.shortest-before.result < n) (views_length c.args.slots.now) c.shortest-before.ensures.within) c.index-slots-before.is ∙ ap slot_view c.in-Some.is in
    let within = c.those_in-within.ensures ∙ ap (filter (is_between_places c.args.lo c.args.hi)) c.as_slice.ensures.value in
    let all = ap (λ l. filter (starts_at (slots_view c.args.slots.now) c.args.lo c.args.hi) (moved_back c.shortest-before.result l)) within
    ∙ starts_by (slots_view c.args.slots.now) c.args.lo c.args.hi c.shortest-before.result c.in-Some.positions.items c.requires slot in
    subst (λ l. OnOk c.put_starts-put.result (c.put_starts-put.new.out.items ≡ c.args.out.now.items ++ l)) all c.put_starts-put.ensures.ok
