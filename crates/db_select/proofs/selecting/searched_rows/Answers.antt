use Rattle.std.proofs.Common.{List, Some, refl, ap, subst, ◌∙◌}
use Rattle.std.proofs.lemmas.Result.{err_from_is_err_and}
use Rattle.ct_keep.specs.laws.Composing.{reads_hold}
use Rattle.tb_table.specs.declared.columns.Column.{Column}
use Rattle.db_cond.specs.Refused.{refusal_of}
use Rattle.db_find.specs.declared.finding.Found.TheVariants.{Refused, Rows}
use Rattle.db_find.specs.Searches.{held_search}
use Rattle.db_find.specs.Seeking.{NeedsIndex, index_of_search}
use Rattle.db_select.specs.Selecting.{select_rows}
use Rattle.db_select.specs.Choosing.{selection}
use Rattle.db_select.proofs.KnownSearches.{gives_known, known_alone, known_answers, known_rows, known_search, passed_search, refused_search}
use Rattle.db_select.proofs.SearchLooks.{index_alone}
use Rattle.db_select.proofs.SelectLaws.{few_columns, has_needed, needs_none, unindexed, faulty}
use Rattle.db_select.proofs.selecting.searched_rows.Goals as goal

-- its document is short enough
pub find-requires-clause-short : goal.find-requires-clause-short
find-requires-clause-short g c = c.in_default-search_fault.ensures.short refl

pub returns-in_default-clause-rows : goal.returns-in_default-clause-rows
returns-in_default-clause-rows g c = λ m k x holds stands there same.
    let t = c.args.table.now in
    let columns : List Column = c.args.columns.now in
    let s = held_search c.args.search in
    let few = few_columns m t x columns stands.state.tables there same in
    let none = subst (NeedsIndex m t columns s) c.in_default.is (c.in_ok-index.ensures.index m k holds stands few) in
    unindexed m t x (selection c.args.list.now c.args.orders.now) (Some s) c.args.conds.now (needs_none m t x s (ap (λ (cs : List Column). index_of_search m t cs s) same ∙ none)) c.in_ok-fault_line.field-0 c.in_ok-fault_line.ensures

pub returns-in-Some-search_fault-clause-rows : goal.returns-in-Some-search_fault-clause-rows
returns-in-Some-search_fault-clause-rows g c = λ m k x holds stands there same.
    let t = c.args.table.now in
    let columns : List Column = c.args.columns.now in
    let s = held_search c.args.search in
    let few = few_columns m t x columns stands.state.tables there same in
    let index : NeedsIndex m t columns s (Some c.in-Some.index) = subst (NeedsIndex m t columns s) c.in-Some.is (c.in_ok-index.ensures.index m k holds stands few) in
    let needed = has_needed m t x s index.0 (ap (λ (cs : List Column). index_of_search m t cs s) same ∙ index.1.1) in
    faulty m t x (selection c.args.list.now c.args.orders.now) (Some s) c.args.conds.now columns same needed (refusal_of c.in-Some-search_fault.fault) c.in-Some-search_fault.ensures.fault
    c.in_ok-fault_line-2.field-0 c.in_ok-fault_line-2.ensures

pub returns-in-Refused-clause-rows : goal.returns-in-Refused-clause-rows
returns-in-Refused-clause-rows g c = λ m k x holds stands there same.
    let known =
    known_search m c.args.table.now x (selection c.args.list.now c.args.orders.now) (held_search c.args.search) c.args.conds.now c.args.columns.now same c.in-Some.index _ stands.state.tables stands.state.indexes there
    (c.in_ok-index.ensures.index m k holds stands) c.in-Some.is c.in_default-search_fault.ensures.fault in
    let behind = reads_hold _ _ k c.in_ok-index.ensures.reads holds in
    refused_search known c.in-Refused.line (gives_known known c.in_ok-found.found (Refused c.in-Refused.line) c.in-Refused.is (c.in_ok-found.ensures.found m k known.index behind stands known.there (known_answers known c.args.columns.now same)))

pub returns-clause-rows : goal.returns-clause-rows
returns-clause-rows g c = λ m k x holds stands there same.
    let known =
    known_search m c.args.table.now x (selection c.args.list.now c.args.orders.now) (held_search c.args.search) c.args.conds.now c.args.columns.now same c.in-Some.index _ stands.state.tables stands.state.indexes there
    (c.in_ok-index.ensures.index m k holds stands) c.in-Some.is c.in_default-search_fault.ensures.fault in
    let behind = reads_hold _ _ k c.in_ok-index.ensures.reads holds in
    let later = reads_hold _ _ k c.in_ok-found.ensures.reads behind in
    passed_search known c.in-Rows.asked c.deref.result.now c.in-Rows.hits c.in_ok-rows-in-Rows.rows
    (gives_known known c.in_ok-found.found (Rows c.in-Rows.hits c.in-Rows.asked) c.in-Rows.is (c.in_ok-found.ensures.found m k known.index behind stands known.there (known_answers known c.args.columns.now same)))
    c.deref.ensures.value (c.in_ok-rows-in-Rows.ensures.hits m k x later stands there same)

-- ---- what was looked up

pub returns-in_err-index-clause-at_most : goal.returns-in_err-index-clause-at_most
returns-in_err-index-clause-at_most g c = λ m k x holds stands there same.
    let s = held_search c.args.search in
    rw (err_from_is_err_and c.from_residual.result c.from_residual.ensures.1).1
    (index_alone k m c.args.table.now x (selection c.args.list.now c.args.orders.now) s c.args.conds.now (select_rows m c.args.table.now x (selection c.args.list.now c.args.orders.now) (Some s) c.args.conds.now) _ _ (c.needed_index.ensures.at_most k holds))

pub returns-in_err-fault_line-clause-at_most : goal.returns-in_err-fault_line-clause-at_most
returns-in_err-fault_line-clause-at_most g c = λ m k x holds stands there same.
    let s = held_search c.args.search in
    rw (err_from_is_err_and c.from_residual-in_err-fault_line.result c.from_residual-in_err-fault_line.ensures.1).1
    (index_alone k m c.args.table.now x (selection c.args.list.now c.args.orders.now) s c.args.conds.now (select_rows m c.args.table.now x (selection c.args.list.now c.args.orders.now) (Some s) c.args.conds.now) _ _ (c.in_ok-index.ensures.at_most k holds))

pub returns-in_default-clause-at_most : goal.returns-in_default-clause-at_most
returns-in_default-clause-at_most g c = λ m k x holds stands there same.
    let s = held_search c.args.search in
    index_alone k m c.args.table.now x (selection c.args.list.now c.args.orders.now) s c.args.conds.now (select_rows m c.args.table.now x (selection c.args.list.now c.args.orders.now) (Some s) c.args.conds.now) _ _ (c.in_ok-index.ensures.at_most k holds)

pub returns-in_err-fault_line-2-clause-at_most : goal.returns-in_err-fault_line-2-clause-at_most
returns-in_err-fault_line-2-clause-at_most g c = λ m k x holds stands there same.
    let s = held_search c.args.search in
    rw (err_from_is_err_and c.from_residual-in_err-fault_line-2.result c.from_residual-in_err-fault_line-2.ensures.1).1
    (index_alone k m c.args.table.now x (selection c.args.list.now c.args.orders.now) s c.args.conds.now (select_rows m c.args.table.now x (selection c.args.list.now c.args.orders.now) (Some s) c.args.conds.now) _ _ (c.in_ok-index.ensures.at_most k holds))

pub returns-in-Some-search_fault-clause-at_most : goal.returns-in-Some-search_fault-clause-at_most
returns-in-Some-search_fault-clause-at_most g c = λ m k x holds stands there same.
    let s = held_search c.args.search in
    index_alone k m c.args.table.now x (selection c.args.list.now c.args.orders.now) s c.args.conds.now (select_rows m c.args.table.now x (selection c.args.list.now c.args.orders.now) (Some s) c.args.conds.now) _ _ (c.in_ok-index.ensures.at_most k holds)

pub returns-in_err-found-clause-at_most : goal.returns-in_err-found-clause-at_most
returns-in_err-found-clause-at_most g c = λ m k x holds stands there same.
    let known =
    known_search m c.args.table.now x (selection c.args.list.now c.args.orders.now) (held_search c.args.search) c.args.conds.now c.args.columns.now same c.in-Some.index _ stands.state.tables stands.state.indexes there
    (c.in_ok-index.ensures.index m k holds stands) c.in-Some.is c.in_default-search_fault.ensures.fault in
    let behind = reads_hold _ _ k c.in_ok-index.ensures.reads holds in
    rw (err_from_is_err_and c.from_residual-in_err-found.result c.from_residual-in_err-found.ensures.1).1
    (known_alone known k c.looking_law.ensures _ _ _ (c.in_ok-index.ensures.at_most k holds) (c.find.ensures.at_most m k known.index behind stands known.there (known_answers known c.args.columns.now same)))

pub returns-in-Refused-clause-at_most : goal.returns-in-Refused-clause-at_most
returns-in-Refused-clause-at_most g c = λ m k x holds stands there same.
    let known =
    known_search m c.args.table.now x (selection c.args.list.now c.args.orders.now) (held_search c.args.search) c.args.conds.now c.args.columns.now same c.in-Some.index _ stands.state.tables stands.state.indexes there
    (c.in_ok-index.ensures.index m k holds stands) c.in-Some.is c.in_default-search_fault.ensures.fault in
    let behind = reads_hold _ _ k c.in_ok-index.ensures.reads holds in
    known_alone known k c.looking_law.ensures _ _ _ (c.in_ok-index.ensures.at_most k holds) (c.in_ok-found.ensures.at_most m k known.index behind stands known.there (known_answers known c.args.columns.now same))

pub returns-in_err-rows-in-Rows-clause-at_most : goal.returns-in_err-rows-in-Rows-clause-at_most
returns-in_err-rows-in-Rows-clause-at_most g c = λ m k x holds stands there same.
    let known =
    known_search m c.args.table.now x (selection c.args.list.now c.args.orders.now) (held_search c.args.search) c.args.conds.now c.args.columns.now same c.in-Some.index _ stands.state.tables stands.state.indexes there
    (c.in_ok-index.ensures.index m k holds stands) c.in-Some.is c.in_default-search_fault.ensures.fault in
    let behind = reads_hold _ _ k c.in_ok-index.ensures.reads holds in
    let gives = gives_known known c.in_ok-found.found (Rows c.in-Rows.hits c.in-Rows.asked) c.in-Rows.is (c.in_ok-found.ensures.found m k known.index behind stands known.there (known_answers known c.args.columns.now same)) in
    rw (err_from_is_err_and c.from_residual-in_err-rows-in-Rows.result c.from_residual-in_err-rows-in-Rows.ensures.1).1
    (known_rows known k c.looking_law.ensures c.args.columns.now c.in-Rows.asked c.deref.result.now c.in-Rows.hits _ _ _ _ _ same gives c.deref.ensures.value (c.in_ok-index.ensures.at_most k holds)
    (c.in_ok-found.ensures.at_most m k known.index behind stands known.there (known_answers known c.args.columns.now same)) (c.in_err-rows-in-Rows.ensures.once (few_columns m c.args.table.now x c.args.columns.now stands.state.tables there same)))

pub returns-clause-at_most : goal.returns-clause-at_most
returns-clause-at_most g c = λ m k x holds stands there same.
    let known =
    known_search m c.args.table.now x (selection c.args.list.now c.args.orders.now) (held_search c.args.search) c.args.conds.now c.args.columns.now same c.in-Some.index _ stands.state.tables stands.state.indexes there
    (c.in_ok-index.ensures.index m k holds stands) c.in-Some.is c.in_default-search_fault.ensures.fault in
    let behind = reads_hold _ _ k c.in_ok-index.ensures.reads holds in
    let gives = gives_known known c.in_ok-found.found (Rows c.in-Rows.hits c.in-Rows.asked) c.in-Rows.is (c.in_ok-found.ensures.found m k known.index behind stands known.there (known_answers known c.args.columns.now same)) in
    known_rows known k c.looking_law.ensures c.args.columns.now c.in-Rows.asked c.deref.result.now c.in-Rows.hits _ _ _ _ _ same gives c.deref.ensures.value (c.in_ok-index.ensures.at_most k holds)
    (c.in_ok-found.ensures.at_most m k known.index behind stands known.there (known_answers known c.args.columns.now same)) (c.in_ok-rows-in-Rows.ensures.once (few_columns m c.args.table.now x c.args.columns.now stands.state.tables there same))

-- ---- what was read

pub returns-clause-own : goal.returns-clause-own
returns-clause-own g c = λ m k holds stands.
    let behind = reads_hold _ _ k c.in_ok-index.ensures.reads holds in
    c.in_ok-rows-in-Rows.ensures.own m k (reads_hold _ _ k c.in_ok-found.ensures.reads behind) stands
