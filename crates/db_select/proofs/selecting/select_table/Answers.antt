use Rattle.std.proofs.Common.{◌≡◌, ℕ, List, Option, Some, Vec, sym, ap, subst, ◌∙◌}
use Rattle.std.specs.Option.{option_map}
use Rattle.std.specs.FinMap.{get}
use Rattle.std.specs.declared.alloc.Global.{Global}
use Rattle.ct_keep.specs.laws.Composing.{reads_hold}
use Rattle.tb_table.specs.declared.columns.Column.{Column}
use Rattle.tb_table.specs.Tables.{Table}
use Rattle.db_state.specs.laws.Columns.{some_table}
use Rattle.db_cond.specs.Faults.{UnknownName, refusal_line}
use Rattle.st_parse.specs.declared.statements.Cond.{Cond}
use Rattle.db_find.specs.Searches.{Search, held_search, search_in}
use Rattle.db_select.specs.Looking.{LooksFew}
use Rattle.db_select.specs.Predicates.{conds_in}
use Rattle.db_select.specs.Selecting.{select, select_rows}
use Rattle.db_select.specs.Choosing.{selection}
use Rattle.db_select.proofs.SearchLooks.{still_few, table_few}
use Rattle.db_select.proofs.SelectLaws.{known, table_reply, unknown}
use Rattle.db_select.proofs.selecting.select_table.Goals as goal

pub returns-clause-reply : goal.returns-clause-reply
returns-clause-reply g c = λ m k holds stands.
    let t = c.args.table.now in
    let want = selection c.args.list.now c.args.orders.now in
    let preds = c.args.preds.now in
    let columns : List Column = c.deref.result.now in
    let some : Some columns ≡ option_map (λ (x : Table). x.columns) (get m.tables t) =
    ap Some c.deref.ensures.value ∙ ap (option_map (λ (v : Vec Column Global). v.items)) (sym c.in-Some.is) ∙ c.in_ok-columns.ensures.columns m k holds stands in
    let table = some_table (get m.tables t) columns some in
    let behind = reads_hold _ _ k c.in_ok-columns.ensures.reads holds in
    let lent : columns ≡ c.deref-2.result.now = c.deref.ensures.value ∙ sym c.deref-2.ensures.value in
    c.in_ok-reply.ensures.reply m k table.0 behind stands table.1 (table.2 ∙ lent)
    ∙ table_reply m want t preds table.0 table.1 columns table.2 (sym c.in_default-unknown_name.ensures) (option_map held_search c.search_in-search.result) c.deref-3.result.now c.search_in-search.ensures
    (c.deref-3.ensures.value ∙ c.in_ok-conds.ensures)

pub returns-in-Some-unknown_name-clause-reply : goal.returns-in-Some-unknown_name-clause-reply
returns-in-Some-unknown_name-clause-reply g c = λ m k holds stands.
    let t = c.args.table.now in
    let columns : List Column = c.deref.result.now in
    let some : Some columns ≡ option_map (λ (x : Table). x.columns) (get m.tables t) =
    ap Some c.deref.ensures.value ∙ ap (option_map (λ (v : Vec Column Global). v.items)) (sym c.in-Some.is) ∙ c.in_ok-columns.ensures.columns m k holds stands in
    let table = some_table (get m.tables t) columns some in
    unknown m (selection c.args.list.now c.args.orders.now) t c.args.preds.now table.0 table.1 columns table.2 c.in-Some-unknown_name.name.now (sym c.in-Some-unknown_name.ensures) c.in_ok-fault_line-2.field-0.items
    (c.in_ok-fault_line-2.ensures ∙ ap (λ (n : List ℕ). refusal_line (UnknownName n)) c.as_str-in-Some-unknown_name.ensures.text)

-- ---- what was looked up

pub returns-in_err-columns-clause-at_most : goal.returns-in_err-columns-clause-at_most
returns-in_err-columns-clause-at_most g c = λ m k holds stands. still_few (select m (selection c.args.list.now c.args.orders.now) c.args.table.now c.args.preds.now) k m (selection c.args.list.now c.args.orders.now) c.args.table.now c.args.preds.now (search_in c.args.preds.now) _ _ c.table_columns.ensures.at_most

pub returns-in_err-fault_line-clause-at_most : goal.returns-in_err-fault_line-clause-at_most
returns-in_err-fault_line-clause-at_most g c = λ m k holds stands. still_few (select m (selection c.args.list.now c.args.orders.now) c.args.table.now c.args.preds.now) k m (selection c.args.list.now c.args.orders.now) c.args.table.now c.args.preds.now (search_in c.args.preds.now) _ _ c.in_ok-columns.ensures.at_most

pub returns-in_default-clause-at_most : goal.returns-in_default-clause-at_most
returns-in_default-clause-at_most g c = λ m k holds stands. still_few (select m (selection c.args.list.now c.args.orders.now) c.args.table.now c.args.preds.now) k m (selection c.args.list.now c.args.orders.now) c.args.table.now c.args.preds.now (search_in c.args.preds.now) _ _ c.in_ok-columns.ensures.at_most

pub returns-in_err-fault_line-2-clause-at_most : goal.returns-in_err-fault_line-2-clause-at_most
returns-in_err-fault_line-2-clause-at_most g c = λ m k holds stands. still_few (select m (selection c.args.list.now c.args.orders.now) c.args.table.now c.args.preds.now) k m (selection c.args.list.now c.args.orders.now) c.args.table.now c.args.preds.now (search_in c.args.preds.now) _ _ c.in_ok-columns.ensures.at_most

pub returns-in-Some-unknown_name-clause-at_most : goal.returns-in-Some-unknown_name-clause-at_most
returns-in-Some-unknown_name-clause-at_most g c = λ m k holds stands. still_few (select m (selection c.args.list.now c.args.orders.now) c.args.table.now c.args.preds.now) k m (selection c.args.list.now c.args.orders.now) c.args.table.now c.args.preds.now (search_in c.args.preds.now) _ _ c.in_ok-columns.ensures.at_most

pub returns-in_err-conds-clause-at_most : goal.returns-in_err-conds-clause-at_most
returns-in_err-conds-clause-at_most g c = λ m k holds stands. still_few (select m (selection c.args.list.now c.args.orders.now) c.args.table.now c.args.preds.now) k m (selection c.args.list.now c.args.orders.now) c.args.table.now c.args.preds.now (search_in c.args.preds.now) _ _ c.in_ok-columns.ensures.at_most

pub returns-in_err-reply-clause-at_most : goal.returns-in_err-reply-clause-at_most
returns-in_err-reply-clause-at_most g c = λ m k holds stands.
    let t = c.args.table.now in
    let want = selection c.args.list.now c.args.orders.now in
    let preds = c.args.preds.now in
    let columns : List Column = c.deref.result.now in
    let some : Some columns ≡ option_map (λ (x : Table). x.columns) (get m.tables t) =
    ap Some c.deref.ensures.value ∙ ap (option_map (λ (v : Vec Column Global). v.items)) (sym c.in-Some.is) ∙ c.in_ok-columns.ensures.columns m k holds stands in
    let table = some_table (get m.tables t) columns some in
    let behind = reads_hold _ _ k c.in_ok-columns.ensures.reads holds in
    let lent : columns ≡ c.deref-2.result.now = c.deref.ensures.value ∙ sym c.deref-2.ensures.value in
    let conditions = c.deref-3.ensures.value ∙ c.in_ok-conds.ensures in
    let search = option_map held_search c.search_in-search.result in
    let effect = known m want t preds table.0 table.1 columns table.2 (sym c.in_default-unknown_name.ensures) ∙ ap (λ (o : Option Search). select_rows m t table.0 want o (conds_in preds)) (sym c.search_in-search.ensures)
    ∙ ap (λ (cs : List Cond). select_rows m t table.0 want search cs) (sym conditions) in
    subst (λ (o : Option Search). LooksFew (select m want t preds) k m want t preds o (g.K.Keeper.view c.args.keeper.now).counts (g.K.Keeper.view c.select_known.new.keeper).counts) c.search_in-search.ensures
    (table_few (select m want t preds) k m want t preds table.0 search c.deref-3.result.now _ _ _ table.1 conditions effect c.in_ok-columns.ensures.at_most
    (c.select_known.ensures.at_most m k table.0 behind stands table.1 (table.2 ∙ lent)))

pub returns-clause-at_most : goal.returns-clause-at_most
returns-clause-at_most g c = λ m k holds stands.
    let t = c.args.table.now in
    let want = selection c.args.list.now c.args.orders.now in
    let preds = c.args.preds.now in
    let columns : List Column = c.deref.result.now in
    let some : Some columns ≡ option_map (λ (x : Table). x.columns) (get m.tables t) =
    ap Some c.deref.ensures.value ∙ ap (option_map (λ (v : Vec Column Global). v.items)) (sym c.in-Some.is) ∙ c.in_ok-columns.ensures.columns m k holds stands in
    let table = some_table (get m.tables t) columns some in
    let behind = reads_hold _ _ k c.in_ok-columns.ensures.reads holds in
    let lent : columns ≡ c.deref-2.result.now = c.deref.ensures.value ∙ sym c.deref-2.ensures.value in
    let conditions = c.deref-3.ensures.value ∙ c.in_ok-conds.ensures in
    let search = option_map held_search c.search_in-search.result in
    let effect = known m want t preds table.0 table.1 columns table.2 (sym c.in_default-unknown_name.ensures) ∙ ap (λ (o : Option Search). select_rows m t table.0 want o (conds_in preds)) (sym c.search_in-search.ensures)
    ∙ ap (λ (cs : List Cond). select_rows m t table.0 want search cs) (sym conditions) in
    subst (λ (o : Option Search). LooksFew (select m want t preds) k m want t preds o (g.K.Keeper.view c.args.keeper.now).counts (g.K.Keeper.view c.select_known.new.keeper).counts) c.search_in-search.ensures
    (table_few (select m want t preds) k m want t preds table.0 search c.deref-3.result.now _ _ _ table.1 conditions effect c.in_ok-columns.ensures.at_most
    (c.in_ok-reply.ensures.at_most m k table.0 behind stands table.1 (table.2 ∙ lent)))
