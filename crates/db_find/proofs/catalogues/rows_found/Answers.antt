use Rattle.db_find.proofs.CatalogueSteps.{met_by, no_query, read_by}
use Rattle.db_find.proofs.catalogues.rows_found.Goals as goal

pub returns-in-Some-clause-rows : goal.returns-in-Some-clause-rows
returns-in-Some-clause-rows g c = λ m k x holds stands there own names columns.
    met_by m.tables x c.args.flat.now c.in-Some.flat c.args.conds.now c.rows_narrowed.result c.in-Some.is (c.rows_narrowed.ensures.rows m k x holds stands there own names columns)

pub returns-in-Some-clause-texts : goal.returns-in-Some-clause-texts
returns-in-Some-clause-texts g c = λ m k x holds stands there own names.
    read_by m.tables x c.args.flat.now c.in-Some.flat _ _ c.in-Some.is (c.rows_narrowed.ensures.texts m k x holds stands there own names)

pub returns-in-None-clause-rows : goal.returns-in-None-clause-rows
returns-in-None-clause-rows g c = λ m k x holds stands there own names columns. no_query m.tables x c.args.flat.now c.args.conds.now c.new.result.items c.in-None.is c.new.ensures.items
