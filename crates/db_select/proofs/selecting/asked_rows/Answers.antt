use Rattle.std.proofs.Common.{ap, length, ◌∙◌, ◌*◌, arith}
use Rattle.std.proofs.lemmas.Result.{IfOk-weaker, err_from_is_err_and}
use Rattle.ct_keep.specs.laws.Composing.{reads_hold}
use Rattle.db_rows.specs.Texts.{shown_places}
use Rattle.db_rows.specs.laws.Texts.{leaves_still}
use Rattle.db_select.specs.Hits.{all_conds}
use Rattle.db_select.specs.Looking.{read_texts}
use Rattle.db_select.specs.Choosing.{asked_by, chosen_order, selection}
use Rattle.db_select.proofs.AskedLaws.{rows_asked, rows_read, rows_tried}
use Rattle.db_select.proofs.selecting.asked_rows.Goals as goal

pub returns-clause-hits : goal.returns-clause-hits
returns-clause-hits g c = λ m k x holds stands there same.
    let behind = reads_hold _ _ k c.in_ok-rows.ensures.reads holds in
    IfOk-weaker c.put_in_order.result _ _
    (λ rows ordered.
    rows_asked m.tables c.args.table.now x (asked_by (selection c.args.list.now c.args.orders.now) c.args.asked) c.args.conds.now c.deref.result.now c.as_slice-order.result.now c.args.found.now c.in_ok-rows.rows.items rows.items
    (c.deref.ensures.value ∙ c.in_ok-all.ensures) (c.as_slice-order.ensures ∙ c.in_ok-chosen.ensures ∙ ap (chosen_order c.args.list.now c.args.orders.now) c.as_slice.ensures) (c.in_ok-rows.ensures.hits m k x holds stands there same) (c.in_ok-rows.ensures.own m k holds stands) ordered)
    (c.put_in_order.ensures.rows m k x behind stands there same)

pub returns-clause-own : goal.returns-clause-own
returns-clause-own g c = λ m k holds stands.
    IfOk-weaker c.put_in_order.result _ _ (λ rows own. own (c.in_ok-rows.ensures.own m k holds stands)) (c.put_in_order.ensures.own m k (reads_hold _ _ k c.in_ok-rows.ensures.reads holds) stands)

-- ---- each text once

pub returns-in_err-chosen-clause-once : goal.returns-in_err-chosen-clause-once
returns-in_err-chosen-clause-once g c = λ few.
    rw (err_from_is_err_and c.from_residual.result c.from_residual.ensures.1).1
    (leaves_still (length c.args.found.now * length (read_texts c.args.list.now (asked_by (selection c.args.list.now c.args.orders.now) c.args.asked).orders (all_conds c.args.asked c.args.conds.now) c.args.columns.now)) 0 _ (omega arith))

pub returns-in_err-all-clause-once : goal.returns-in_err-all-clause-once
returns-in_err-all-clause-once g c = λ few.
    rw (err_from_is_err_and c.from_residual-in_err-all.result c.from_residual-in_err-all.ensures.1).1
    (leaves_still (length c.args.found.now * length (read_texts c.args.list.now (asked_by (selection c.args.list.now c.args.orders.now) c.args.asked).orders (all_conds c.args.asked c.args.conds.now) c.args.columns.now)) 0 _ (omega arith))

pub returns-in_err-shown-clause-once : goal.returns-in_err-shown-clause-once
returns-in_err-shown-clause-once g c = λ few.
    rw (err_from_is_err_and c.from_residual-in_err-shown.result c.from_residual-in_err-shown.ensures.1).1
    (leaves_still (length c.args.found.now * length (read_texts c.args.list.now (asked_by (selection c.args.list.now c.args.orders.now) c.args.asked).orders (all_conds c.args.asked c.args.conds.now) c.args.columns.now)) 0 _ (omega arith))

pub returns-in_err-rows-clause-once : goal.returns-in_err-rows-clause-once
returns-in_err-rows-clause-once g c = λ few.
    rw (err_from_is_err_and c.from_residual-in_err-rows.result c.from_residual-in_err-rows.ensures.1).1
    (rows_tried c.args.list.now c.args.columns.now (asked_by (selection c.args.list.now c.args.orders.now) c.args.asked) c.args.conds.now c.deref.result.now c.as_slice-order.result.now (shown_places c.in_ok-shown.shown) (length c.args.found.now)
    (c.deref.ensures.value ∙ c.in_ok-all.ensures) (c.as_slice-order.ensures ∙ c.in_ok-chosen.ensures ∙ ap (chosen_order c.args.list.now c.args.orders.now) c.as_slice.ensures) (c.in_ok-shown.ensures few) 0 _ _ c.in_err-rows.ensures.once)

pub returns-clause-once : goal.returns-clause-once
returns-clause-once g c = λ few.
    rows_read c.args.list.now c.args.columns.now (asked_by (selection c.args.list.now c.args.orders.now) c.args.asked) c.args.conds.now c.deref.result.now c.as_slice-order.result.now (shown_places c.in_ok-shown.shown) (length c.args.found.now)
    (c.deref.ensures.value ∙ c.in_ok-all.ensures) (c.as_slice-order.ensures ∙ c.in_ok-chosen.ensures ∙ ap (chosen_order c.args.list.now c.args.orders.now) c.as_slice.ensures) (c.in_ok-shown.ensures few) c.in_ok-rows.rows.items c.put_in_order.result _ _ _ c.in_ok-rows.ensures.once c.put_in_order.ensures.within
