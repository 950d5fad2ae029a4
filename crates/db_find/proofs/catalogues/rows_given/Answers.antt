use Rattle.std.proofs.Common.{List, map, refl, subst, sym}
use Rattle.st_parse.specs.declared.statements.Cond.{Cond}
use Rattle.ix_kinds.specs.Rows.{table_at}
use Rattle.db_find.specs.Catalogues.{unscored}
use Rattle.db_find.specs.Finding.{AreEnough, meant_unscored}
use Rattle.db_find.proofs.catalogues.rows_given.Goals as goal

pub returns-clause-rows : goal.returns-clause-rows
returns-clause-rows g c = λ m k x holds stands there own names columns.
    let t = table_at m.tables x.table in
    let meant = meant_unscored m.tables x c.args.flat.now in
    let given = subst (λ (cs : List Cond). AreEnough t cs meant (map (λ r. unscored r.0) c.in_ok-rows.rows.items)) c.as_slice.ensures (c.in_ok-rows.ensures.rows m k x holds stands there own names columns) in
    (refl, subst (AreEnough t c.args.asked.conds meant) (sym c.in_ok-hits.ensures) given)
