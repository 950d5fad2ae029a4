use Rattle.std.proofs.Common.{◌≡◌, ◌+◌, length, arith}
use Rattle.ix_context.proofs.ShapeSteps.{text_then_document}
use Rattle.ix_context.proofs.shapes.text_and_document.Goals as goal

pub returns-clause-some : goal.returns-clause-some
returns-clause-some c =
    let long : length c.in_ok-len.rest.now ≡ c.in_ok-len.len.now + 4 = omega arith in
    text_then_document c.args.bytes.now c.in_ok-len.rest.now c.in_ok-len.len.now c.in_ok-document.document c.in_ok-len.ensures.cases.0 long c.in_ok-document.ensures.some
