use Rattle.std.proofs.Common.{sym, subst}
use Rattle.ix_spans.specs.InOrder.{EachInOrder}
use Rattle.ix_spans.specs.Views.{pairs_view}
use Rattle.ix_spans.specs.laws.Nearness.{operands_push}
use Rattle.index_tests.proofs.occurrences.operands.Goals as goal

pub loop-row-preserved : goal.loop-row-preserved
loop-row-preserved c = subst (λ os. EachInOrder (pairs_view os)) (sym c.in_ok-push.ensures.items) (operands_push c.loop-row.all.items c.in_ok-in_order.field-0 c.loop-row.invariant c.in_ok-in_order.ensures.order)
