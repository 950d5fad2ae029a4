use Rattle.std.proofs.Common.{map, ap, subst, ◌∙◌}
use Rattle.ix_spans.specs.InOrder.{EachSame}
use Rattle.ix_spans.specs.Occurrences.{term_pairs, near_holds}
use Rattle.ix_spans.specs.Views.{pairs_view}
use Rattle.ix_spans.specs.laws.Nearness.{near_alike}
use Rattle.q_tree.specs.Scores.{if_near}
use Rattle.ix_cursor.specs.Seen.{seen_operands}
use Rattle.ix_cursor.proofs.scoring.score_near.Goals as goal

pub returns : goal.returns
returns c =
    let near = c.args.near.now in
    let pairs = c.in_ok-pairs.pairs.items in
    let occurrences = map (λ o. term_pairs o c.args.lo c.args.hi) (seen_operands near.operands.items) in
    let same = subst (λ os. EachSame (pairs_view pairs) (map (λ o. term_pairs o c.args.lo c.args.hi) (seen_operands os))) c.deref.ensures.value c.in_ok-pairs.ensures.same in
    c.if_near.ensures
    ∙ ap if_near (c.near_holds.ensures
    ∙ ap (λ os. near_holds (pairs_view os) near.span near.ordered) c.deref-2.ensures.value
    ∙ near_alike (pairs_view pairs) occurrences near.span near.ordered same)
