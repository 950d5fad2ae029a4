use Rattle.std.proofs.Common.{List, ℕ, sym, ap, ◌∙◌}
use Rattle.std.specs.FinMap.{get}
use Rattle.std.proofs.lemmas.Result.{IfOk-weaker}
use Rattle.ct_keep.specs.laws.Composing.{reads_hold}
use Rattle.tb_table.specs.Tables.{Table}
use Rattle.ix_kinds.specs.Rows.{table_at, table_or_none}
use Rattle.ix_indexes.specs.Indexes.{as_index}
use Rattle.db_hits.proofs.CallSteps.{finds_hits, found_reply, refused_line, search_alone, search_read}
use Rattle.db_hits.proofs.calling.search.Goals as goal

pub returns-in-Refused-clause-reply : goal.returns-in-Refused-clause-reply
returns-in-Refused-clause-reply g c = λ m k y holds stands there same columns.
    refused_line m y c.args.query.now c.args.parts.now c.in_ok-found.found c.in-Refused.line (c.in_ok-found.ensures.found m k y holds stands there) c.in-Refused.is

pub returns-clause-reply : goal.returns-clause-reply
returns-clause-reply g c = λ m k y holds stands there same columns.
    let finds = finds_hits m y c.args.query.now c.in_ok-found.found c.in-Rows.hits _ c.deref.result.now (c.in_ok-found.ensures.found m k y holds stands there) c.in-Rows.is c.deref.ensures.value in
    let target = (stands.state.indexes.each c.args.index.now (as_index y) there).target in
    let here = ap table_or_none target.there in
    let its = ap (λ (x : Table). x.columns) (sym here) ∙ ap (λ (t : List ℕ). (table_at m.tables t).columns) same ∙ columns in
    let behind = reads_hold _ _ k c.in_ok-found.ensures.reads holds in
    IfOk-weaker c.hits_reply.result _ _
    (λ reply says. found_reply m (as_index y) c.args.query.now c.args.parts.now target.table c.deref.result.now reply.items finds.passes here finds.rows says)
    (c.hits_reply.ensures.reply m k target.table behind stands (ap (get m.tables) (sym same) ∙ target.there) its finds.rise)

-- ---- what is looked up

pub returns-in_err-found-clause-at_most : goal.returns-in_err-found-clause-at_most
returns-in_err-found-clause-at_most g c = λ m k y holds stands there same columns.
    search_alone m (as_index y) c.args.query.now c.args.parts.now c.looking_law.ensures k c.args.index.now _ _ (c.find_in_context.ensures.at_most m k y holds stands there)

pub returns-in-Refused-clause-at_most : goal.returns-in-Refused-clause-at_most
returns-in-Refused-clause-at_most g c = λ m k y holds stands there same columns.
    search_alone m (as_index y) c.args.query.now c.args.parts.now c.looking_law.ensures k c.args.index.now _ _ (c.in_ok-found.ensures.at_most m k y holds stands there)

pub returns-clause-at_most : goal.returns-clause-at_most
returns-clause-at_most g c = λ m k y holds stands there same columns.
    let finds = finds_hits m y c.args.query.now c.in_ok-found.found c.in-Rows.hits _ c.deref.result.now (c.in_ok-found.ensures.found m k y holds stands there) c.in-Rows.is c.deref.ensures.value in
    search_read m (as_index y) c.args.query.now c.args.parts.now c.looking_law.ensures k c.args.index.now c.args.columns.now c.deref.result.now _ _ _ finds.passes
    (ap (λ (t : List ℕ). (table_at m.tables t).columns) same ∙ columns) finds.rows (c.in_ok-found.ensures.at_most m k y holds stands there) c.hits_reply.ensures.at_most
