use Rattle.std.proofs.Common.{ap, subst, sym, ◌∙◌}
use Rattle.std.proofs.lemmas.Result.{IfOk-weaker}
use Rattle.tb_table.specs.Rules.{IsTable}
use Rattle.q_tree.specs.ReducedQueries.{reduced_of}
use Rattle.ix_kinds.specs.Rows.{table_at, table_or_none}
use Rattle.cat_search.specs.Contents.{HoldsCatalogue}
use Rattle.db_find.specs.laws.Catalogues.{holds_catalogue}
use Rattle.db_find.proofs.Narrowing.{has_sub, narrowed}
use Rattle.db_find.proofs.catalogues.rows_narrowed.Goals as goal

pub rows_within-requires-clause-query : goal.rows_within-requires-clause-query
rows_within-requires-clause-query g c = record { set = c.requires.set; sound = c.requires.searchable.sound; boolean = c.requires.boolean }

pub returns-clause-rows : goal.returns-clause-rows
returns-clause-rows g c = λ m k x holds stands there own names columns.
    let i = c.args.index.now in
    let held : HoldsCatalogue k m.tables i x = holds_catalogue k m stands i x there in
    let t = table_at m.tables x.table in
    let rules : IsTable t = subst IsTable (sym (ap table_or_none held.target.there)) (held.tables.rules.each x.table held.target.table held.target.there) in
    let subs = c.as_slice.result.now in
    let are = names ∙ sym c.as_slice.ensures in
    let best = c.in_ok-best.best in
    let sub = has_sub t x held.rules c.args.columns.now c.args.conds.now subs best are c.in_ok-best.ensures in
    IfOk-weaker c.rows_within.result _ _ (λ rows. narrowed t x held.rules c.args.columns.now c.args.conds.now subs best are c.in_ok-best.ensures rules columns (reduced_of c.args.flat.now) rows.items)
    (c.rows_within.ensures.rows k m.tables x holds held own sub)

pub returns-clause-texts : goal.returns-clause-texts
returns-clause-texts g c = λ m k x holds stands there own names.
    let i = c.args.index.now in
    let held : HoldsCatalogue k m.tables i x = holds_catalogue k m stands i x there in
    let sub = has_sub (table_at m.tables x.table) x held.rules c.args.columns.now c.args.conds.now c.as_slice.result.now c.in_ok-best.best (names ∙ sym c.as_slice.ensures) c.in_ok-best.ensures in
    c.rows_within.ensures.texts k m.tables x holds held own sub
