use Rattle.std.proofs.Common.{◌+◌, drop, sym, ◌∙◌}
use Rattle.ct_base.specs.laws.Lists.{drop_next}
use Rattle.db_select.proofs.PredicateLaws.{order_missing, order_there}
use Rattle.db_select.proofs.predicates.unknown_ordered.Goals as goal

pub returns-in-Some : goal.returns-in-Some
returns-in-Some c =
    let orders = c.args.orders.now in
    let i = c.loop-order.order-index in
    sym (order_missing (drop i orders) (drop (i + 1) orders) c.order-item.result c.args.columns.now c.in-Some.name.now
    (drop_next orders i c.order-item.result c.loop-order-test.true c.order-item.is) (sym c.in-Some.ensures))
    ∙ c.loop-order.invariant

pub loop-order-preserved : goal.loop-order-preserved
loop-order-preserved c =
    let orders = c.args.orders.now in
    let i = c.loop-order.order-index in
    sym (order_there (drop i orders) (drop (i + 1) orders) c.order-item.result c.args.columns.now
    (drop_next orders i c.order-item.result c.loop-order-test.true c.order-item.is) (sym c.in_default.ensures))
    ∙ c.loop-order.invariant
