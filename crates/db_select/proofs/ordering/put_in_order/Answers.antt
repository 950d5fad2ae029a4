use Rattle.std.proofs.Common.{sym, ap, ◌∙◌, arith}
use Rattle.std.proofs.lemmas.Result.{err_from_is_err_and}
use Rattle.db_rows.specs.laws.Texts.{leaves_still, rises_given}
use Rattle.db_select.specs.Fields.{fields_among}
use Rattle.db_select.proofs.OrderLaws.{ordered_own, ordered_rows, ordered_within, unordered_rows}
use Rattle.db_select.proofs.ShownLaws.{none_from_empty}
use Rattle.db_select.proofs.ordering.put_in_order.Goals as goal

-- ---- where nothing is asked for

pub returns-then-is_empty-clause-rows : goal.returns-then-is_empty-clause-rows
returns-then-is_empty-clause-rows g c = λ m k x holds stands there same.
    unordered_rows m.tables c.args.table.now x c.args.orders.now c.args.rows.items (none_from_empty c.args.orders.now (sym c.is_empty.ensures ∙ c.if-is_empty.true))

pub returns-then-is_empty-clause-own : goal.returns-then-is_empty-clause-own
returns-then-is_empty-clause-own g c = λ m k holds stands own. own

pub returns-then-is_empty-clause-within : goal.returns-then-is_empty-clause-within
returns-then-is_empty-clause-within g c = λ places among. leaves_still _ _ _ (omega arith)

-- ---- the order

pub returns-clause-rows : goal.returns-clause-rows
returns-clause-rows g c = λ m k x holds stands there same.
    ordered_rows m.tables c.args.table.now x c.args.columns.now c.args.orders.now c.deref.result.now c.deref-2.result.now c.args.rows.items
    c.in_ok-ranked.ranked.items c.order_rows.new.rows.items c.in_ok-rows_without_values.field-0.items stands.state.tables there same
    (c.deref.ensures.value ∙ c.in_ok-sources.ensures) (c.deref-2.ensures.value ∙ c.in_ok-keys.ensures)
    (c.in_ok-ranked.ensures.rows m k holds stands) c.order_rows.ensures.sorted c.in_ok-rows_without_values.ensures (sym c.is_empty.ensures ∙ c.if-is_empty.false)

pub returns-clause-own : goal.returns-clause-own
returns-clause-own g c = λ m k holds stands.
    ordered_own m.tables c.args.table.now c.deref.result.now c.args.rows.items c.in_ok-ranked.ranked.items c.order_rows.new.rows.items c.in_ok-rows_without_values.field-0.items
    (c.in_ok-ranked.ensures.rows m k holds stands) c.order_rows.ensures.permutation c.in_ok-rows_without_values.ensures

-- ---- the texts

pub returns-in_err-ranked-clause-within : goal.returns-in_err-ranked-clause-within
returns-in_err-ranked-clause-within g c = λ places among.
    rw (err_from_is_err_and c.from_residual-in_err-ranked.result c.from_residual-in_err-ranked.ensures.1).1
    (c.in_err-ranked.ensures.within places (ap (fields_among places) (c.deref.ensures.value ∙ c.in_ok-sources.ensures) ∙ among))

pub returns-in_err-rows_without_values-clause-within : goal.returns-in_err-rows_without_values-clause-within
returns-in_err-rows_without_values-clause-within g c = λ places among.
    rw (err_from_is_err_and c.from_residual-in_err-rows_without_values.result c.from_residual-in_err-rows_without_values.ensures.1).1
    (rises_given _ _ _ _ (c.in_ok-ranked.ensures.within places (ap (fields_among places) (c.deref.ensures.value ∙ c.in_ok-sources.ensures) ∙ among)))

pub returns-clause-within : goal.returns-clause-within
returns-clause-within g c = λ places among.
    ordered_within places _ c.in_ok-ranked.ranked.items c.order_rows.new.rows.items c.in_ok-rows_without_values.field-0.items _ _
    c.order_rows.ensures.permutation c.in_ok-rows_without_values.ensures
    (c.in_ok-ranked.ensures.within places (ap (fields_among places) (c.deref.ensures.value ∙ c.in_ok-sources.ensures) ∙ among))
