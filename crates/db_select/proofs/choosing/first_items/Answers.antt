use Rattle.std.proofs.Common.{◌+◌, List, drop, ap, sym, ◌∙◌}
use Rattle.st_parse.specs.declared.statements.OrderItem.{OrderItem}
use Rattle.ct_base.specs.laws.Lists.{drop_next}
use Rattle.db_select.specs.Choosing.{first_items, is_repeated}
use Rattle.db_select.proofs.FirstItems.{none_yet, one_passed, one_put}
use Rattle.db_select.proofs.choosing.first_items.Goals as goal

pub loop-order-init : goal.loop-order-init
loop-order-init c = none_yet c.new-first.result.items c.args.orders.now c.new-first.ensures.items

pub loop-order-preserved-then-is_repeated : goal.loop-order-preserved-then-is_repeated
loop-order-preserved-then-is_repeated c =
    let orders = c.args.orders.now in
    let i = c.loop-order.order-index in
    one_passed c.loop-order.first.items (drop i orders) (drop (i + 1) orders) c.order-item.result (first_items orders)
    (drop_next orders i c.order-item.result c.loop-order-test.true c.order-item.is)
    (ap (λ (out : List OrderItem). is_repeated out c.order-item.result) (sym c.deref.ensures.value) ∙ sym c.is_repeated.ensures ∙ c.if-is_repeated.true) c.loop-order.invariant

pub loop-order-preserved : goal.loop-order-preserved
loop-order-preserved c =
    let orders = c.args.orders.now in
    let i = c.loop-order.order-index in
    one_put c.loop-order.first.items c.push_copy.new.items.items (drop i orders) (drop (i + 1) orders) c.order-item.result (first_items orders)
    (drop_next orders i c.order-item.result c.loop-order-test.true c.order-item.is)
    (ap (λ (out : List OrderItem). is_repeated out c.order-item.result) (sym c.deref.ensures.value) ∙ sym c.is_repeated.ensures ∙ c.if-is_repeated.false)
    c.in_ok-push_copy.ensures c.loop-order.invariant
