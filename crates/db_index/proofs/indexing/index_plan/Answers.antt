use Rattle.std.proofs.Common.{sym, ap, ◌∙◌, arith}
use Rattle.std.proofs.lemmas.Result.{IfOk-weaker}
use Rattle.db_cond.specs.Faults.{UnknownName}
use Rattle.db_state.specs.Effects.{Refused}
use Rattle.db_state.specs.Columns.{column_place}
use Rattle.db_index.specs.Asking.{requests_in}
use Rattle.db_index.specs.Indexing.{columns_read, index_created}
use Rattle.db_index.proofs.AskSteps.{sections_fit}
use Rattle.db_index.proofs.IndexChecks.{no_table, the_table, unknown_table, unknown_column, on_column, unknown_asked, known_asked, plan_as}
use Rattle.db_index.proofs.indexing.index_plan.Goals as goal

pub returns-in_default-clause-plan : goal.returns-in_default-clause-plan
returns-in_default-clause-plan g c = λ m k holds stands parameters read asks.
    unknown_table m c.args.index.now c.args.table.now c.args.column.now c.args.kind parameters c.args.parallel.now (no_table m c.args.table.now (columns_read c.args.columns.now) read (ap columns_read c.in_default.is))
    ∙ ap (λ n. Refused (UnknownName n)) (sym c.as_str.ensures.text)

pub returns-in_default-column_place-clause-plan : goal.returns-in_default-column_place-clause-plan
returns-in_default-column_place-clause-plan g c = λ m k holds stands parameters read asks.
    let x = the_table m c.args.table.now (columns_read c.args.columns.now) c.in-Some.columns.items read (ap columns_read c.in-Some.is) in
    unknown_column m c.args.index.now c.args.table.now c.args.column.now c.args.kind parameters c.args.parallel.now x.0 x.1
    (ap (column_place c.args.column.now) (sym x.2) ∙ ap (column_place c.args.column.now) (sym c.deref.ensures.value) ∙ sym c.column_place.ensures ∙ c.in_default-column_place.is)
    ∙ ap (λ n. Refused (UnknownName n)) (sym c.as_str-in_default-column_place.ensures.text)

pub returns-in-Some-unknown-clause-plan : goal.returns-in-Some-unknown-clause-plan
returns-in-Some-unknown-clause-plan g c = λ m k holds stands parameters read asks.
    let kind = c.args.kind in let place = c.in-Some-column_place.place in
    let on = on_column m c.args.index.now c.args.table.now c.args.column.now kind parameters c.args.parallel.now (columns_read c.args.columns.now) c.in-Some.columns.items place c.args.unknown.now c.args.wanted read asks (ap columns_read c.in-Some.is)
    (ap (column_place c.args.column.now) (sym c.deref.ensures.value) ∙ sym c.column_place.ensures ∙ c.in-Some-column_place.is) in
    on.effect
    ∙ unknown_asked m c.args.index.now c.args.table.now kind c.args.parallel.now (requests_in kind parameters) on.table place c.in-Some-unknown.name (sym on.asks.unknown ∙ c.in-Some-unknown.is)
    ∙ ap (λ n. Refused (UnknownName n)) (sym c.as_str-in-Some-unknown.ensures.text)

pub returns-clause-plan : goal.returns-clause-plan
returns-clause-plan g c = λ m k holds stands parameters read asks.
    let i = c.args.index.now in let t = c.args.table.now in let kind = c.args.kind in let place = c.in-Some-column_place.place in
    let on = on_column m i t c.args.column.now kind parameters c.args.parallel.now (columns_read c.args.columns.now) c.in-Some.columns.items place c.args.unknown.now c.args.wanted read asks (ap columns_read c.in-Some.is)
    (ap (column_place c.args.column.now) (sym c.deref.ensures.value) ∙ sym c.column_place.ensures ∙ c.in-Some-column_place.is) in
    let effect = on.effect ∙ known_asked m i t kind c.args.parallel.now (requests_in kind parameters) on.table place c.args.wanted (sym on.asks.unknown ∙ c.in_default-unknown.is) on.asks.wanted in
    IfOk-weaker c.plan_on.result _ _ (λ plan fits. plan_as _ _ index_created k plan effect fits)
    (c.plan_on.ensures.plan m k on.table holds stands on.there (omega (arith, on.few, (stands.state.tables.each t on.table on.there).columns.few)) (c.deref-2.ensures.value ∙ on.same)
    (sections_fit kind m.preferences parameters c.args.wanted on.asks.wanted))
