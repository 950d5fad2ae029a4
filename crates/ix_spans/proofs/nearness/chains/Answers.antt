use Rattle.std.proofs.Common.{arith, sym, ap, subst}
use Rattle.ix_spans.specs.InOrder.{StartsInOrder}
use Rattle.ix_spans.specs.Windows.{most_turned}
use Rattle.ix_spans.proofs.Viewing.{order_read, turned_read}
use Rattle.ix_spans.proofs.nearness.chains.Goals as goal

pub next_start-requires-clause-order : goal.next_start-requires-clause-order
next_start-requires-clause-order c = subst StartsInOrder (sym c.deref.ensures.value) (order_read c.args.operands.now c.loop-pairs.pairs-index c.pairs-item.result c.loop-pairs-test.true c.pairs-item.is c.requires.order)

pub next_start-requires-clause-turned : goal.next_start-requires-clause-turned
next_start-requires-clause-turned c =
    let own = turned_read c.args.operands.now c.loop-pairs.pairs-index c.pairs-item.result c.loop-pairs-test.true c.pairs-item.is in
    let same = ap most_turned c.deref.ensures.value in
    omega (arith, own, same)
