use Rattle.std.proofs.Common.{◌≡◌, List, [], None, refl, ap, ◌∙◌}
use Rattle.st_parse.specs.declared.statements.Cond.{Cond}
use Rattle.st_parse.specs.declared.statements.OrderItem.{OrderItem}
use Rattle.db_cond.specs.Refused.{refusal_of}
use Rattle.db_select.specs.Hits.{unsearched_rows}
use Rattle.db_select.specs.Ordering.{in_order}
use Rattle.db_select.specs.Choosing.{chosen_order, selection}
use Rattle.db_select.proofs.SelectLaws.{faulty, passed}
use Rattle.db_select.proofs.selecting.met_rows.Goals as goal

pub returns-in-Some-clause-rows : goal.returns-in-Some-clause-rows
returns-in-Some-clause-rows g c = λ m k x holds stands there same.
    faulty m c.args.table.now x (selection c.args.list.now c.args.orders.now) None c.args.conds.now c.args.columns.now same refl
    (refusal_of c.in-Some.fault) c.in-Some.ensures c.in_ok-fault_line.field-0 c.in_ok-fault_line.ensures

pub returns-clause-rows : goal.returns-clause-rows
returns-clause-rows g c = λ m k x holds stands there same.
    let t = c.args.table.now in
    let conds : List Cond = c.args.conds.now in
    let order : c.as_slice.result.now ≡ chosen_order c.args.list.now c.args.orders.now [] =
    c.as_slice.ensures ∙ c.in_ok-order.ensures in
    passed m t x (selection c.args.list.now c.args.orders.now) None conds c.args.columns.now same refl
    c.in_default.ensures refl c.in_ok-rows.rows
    (c.in_ok-rows.ensures.rows m k x holds stands there same ∙ ap (λ (os : List OrderItem). in_order x os (unsearched_rows m t x conds)) order)

pub returns-clause-own : goal.returns-clause-own
returns-clause-own g c = c.in_ok-rows.ensures.own
