use Rattle.std.proofs.Common.{arith}
use Rattle.std.proofs.lemmas.Result.{IfOk-weaker}
use Rattle.ct_entry.specs.Keys.{IsDocument}
use Rattle.ix_context.proofs.ShapeSteps.{is_posting}
use Rattle.ix_context.proofs.shapes.is_posting_entry.Goals as goal

pub returns : goal.returns
returns c =
    let small : IsDocument c.in-Some.document = omega arith in
    IfOk-weaker c.is_row_from.result _ _ (is_posting c.args.part.now c.args.value.now c.in-Some.document small c.in-Some.ensures.some) c.is_row_from.ensures
