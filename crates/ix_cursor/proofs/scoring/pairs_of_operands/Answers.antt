use Rattle.std.proofs.Common.{subst}
use Rattle.ix_spans.specs.InOrder.{SamePairs}
use Rattle.ix_spans.specs.Occurrences.{term_pairs}
use Rattle.ix_cursor.specs.Seen.{seen_phrases}
use Rattle.ix_spans.specs.laws.Nearness.{operands_push}
use Rattle.ix_cursor.proofs.Ordering.{same_more}
use Rattle.ix_cursor.proofs.scoring.pairs_of_operands.Goals as goal

pub loop-operand-preserved : goal.loop-operand-preserved
loop-operand-preserved c =
    let pairs = c.in_ok-pairs_of_term.field-0 in
    let same = subst (λ ps. SamePairs pairs.items (term_pairs (seen_phrases ps) c.args.lo c.args.hi)) c.deref.ensures.value c.in_ok-pairs_of_term.ensures.same in
    rw c.in_ok-push.ensures.items (record {
      order = operands_push c.loop-operand.out.items pairs c.loop-operand.invariant.order c.in_ok-pairs_of_term.ensures.order;
      same = same_more (λ o. term_pairs o c.args.lo c.args.hi) c.loop-operand.out.items pairs c.args.operands.now c.loop-operand.operand-index c.operand-item.result c.loop-operand-test.true c.operand-item.is c.loop-operand.invariant.same same;
    })
