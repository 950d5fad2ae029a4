use Rattle.std.proofs.Common.{◌≡◌, ◌∙◌, List, map, sym, ap}
use Rattle.ct_base.specs.declared.numbers.Pair.{Pair}
use Rattle.ix_lists.specs.Documents.{places_at}
use Rattle.ix_cursor.specs.declared.feeds.SpanFeed.{SpanFeed}
use Rattle.ix_cursor.specs.declared.nodes.Node.{Node}
use Rattle.ix_cursor.specs.Nodes.{score_at, seen_score}
use Rattle.ix_cursor.proofs.Within.{inside_kept}
use Rattle.ix_cursor.proofs.nodes.Node.+see.Goals as goal

pub returns-in_ok-self-in-Within-clause-seen : goal.returns-in_ok-self-in-Within-clause-seen
returns-in_ok-self-in-Within-clause-seen t c lo hi =
    let d = c.args.document in
    let part = c.deref.result.now in
    let section = c.deref_mut-in-Within-3.result.now in
    let pairs : section.seen ≡ places_at c.in-Within.section.value.documents d =
    ap (λ (s : SpanFeed). s.seen) c.deref_mut-in-Within-3.ensures.value ∙ c.in_ok-see_section-in-Within.ensures.seen ∙ ap (λ (s : SpanFeed). places_at s.documents d) c.deref_mut-in-Within-2.ensures.value in
    let same : c.as_slice.result.now ≡ section.seen = c.as_slice.ensures ∙ ap (λ (s : SpanFeed). s.seen) (c.deref-in-Within.ensures ∙ sym c.deref_mut-in-Within-3.ensures.value) in
    rw c.in-Within.is (inside_kept (λ l h. seen_score part l h) (λ l h. score_at c.in-Within.a.value d l h) lo hi section.seen (places_at c.in-Within.section.value.documents d) c.in_ok-self-in-Within.field-0.items
    pairs
    (c.in_ok-self-in-Within.ensures ∙ ap (λ (ps : List Pair). map (λ p. seen_score part p.first p.last) ps) same)
    (λ l h. ap (λ (n : Node). seen_score n l h) c.deref.ensures ∙ c.in_ok-see-in-Within.ensures.seen l h ∙ ap (λ (n : Node). score_at n d l h) c.deref_mut-in-Within.ensures.value))
