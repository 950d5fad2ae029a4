use Rattle.std.proofs.Common.{Err, ap}
use Rattle.ix_context.specs.Shapes.{StartsAt}
use Rattle.ix_context.proofs.ShapeSteps.{starts_so, starts_nowhere, is_not}
use Rattle.ix_context.proofs.shapes.is_row_from.Goals as goal

pub returns-in-Ok : goal.returns-in-Ok
returns-in-Ok g c =
    starts_so g.P.Place.form c.args.value.now c.args.document c.documents.result.now c.in-Ok.row c.index-documents-0.result
    c.documents.ensures.documents c.in-Ok.ensures.rules c.in-Ok.ensures.row c.in-Ok.ensures.read_back

pub returns-in-Err-BadRow : goal.returns-in-Err-BadRow
returns-in-Err-BadRow g c =
    is_not (StartsAt g.P.Place.form c.args.document c.args.value.now)
    (starts_nowhere g.P.Place.form c.args.value.now c.args.document (c.in-Err-BadRow.ensures.bad (ap Err c.in-Err-BadRow.field-0-is)))
