use Rattle.std.proofs.Common.{arith}
use Rattle.std.proofs.lemmas.Result.{IfOk-weaker}
use Rattle.ct_entry.specs.Keys.{IsDocument}
use Rattle.ix_context.specs.Shapes.{IsSpanPart}
use Rattle.ix_context.proofs.ShapeSteps.{is_span}
use Rattle.ix_context.proofs.SyncSteps.{some_says}
use Rattle.ix_context.proofs.shapes.is_span_entry.Goals as goal

pub returns : goal.returns
returns c =
    let small : IsDocument c.in-Some.document = omega arith in
    let key = some_says _ (IsSpanPart c.args.part.now) _ c.in-Some.document c.in-Some.is c.in_ok-document.ensures in
    IfOk-weaker c.is_row_from.result _ _ (is_span c.args.part.now c.args.value.now c.in-Some.document small key) c.is_row_from.ensures
