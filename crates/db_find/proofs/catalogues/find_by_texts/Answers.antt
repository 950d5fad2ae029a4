use Rattle.std.proofs.Common.{sym, ◌∙◌}
use Rattle.db_find.proofs.CatalogueSteps.{gives_meant, reads_meant}
use Rattle.db_find.proofs.catalogues.find_by_texts.Goals as goal

pub returns-clause-found : goal.returns-clause-found
returns-clause-found g c = λ m k x holds stands there own names columns.
    gives_meant m.tables x c.args.catalogue.now.prefs own.prefs c.args.query.now c.args.structured.now c.args.columns.now c.as_slice.result.now columns (names ∙ sym c.as_slice.ensures)
    c.in_ok-line.field-0 c.in-Finds.flat c.in-Finds.is c.in_ok-line.ensures.meaning c.in_ok-line-2.field-0 c.in-Asks.asked c.in-Asks.is c.in_ok-line-2.ensures
    c.rows_given.result (c.rows_given.ensures.rows m k x holds stands there own names columns)

pub returns-clause-texts : goal.returns-clause-texts
returns-clause-texts g c = λ m k x holds stands there own names columns.
    reads_meant m.tables x c.args.catalogue.now.prefs own.prefs c.args.query.now c.args.structured.now c.args.columns.now c.as_slice.result.now columns (names ∙ sym c.as_slice.ensures)
    c.in_ok-line.field-0 c.in-Finds.flat c.in-Finds.is c.in_ok-line.ensures.meaning c.in_ok-line-2.field-0 c.in-Asks.asked c.in-Asks.is c.in_ok-line-2.ensures
    _ _ (c.rows_given.ensures.texts m k x holds stands there own names)
