use Rattle.std.specs.Str.{chars}
use Rattle.std.proofs.lemmas.Result.{IfOk-weaker}
use Rattle.cat_where.specs.Verdicts.{verdict}
use Rattle.db_find.proofs.Refusals.{refused_number}
use Rattle.db_find.proofs.structured.read_structured.Goals as goal

pub returns-in-Err-BadNumber : goal.returns-in-Err-BadNumber
returns-in-Err-BadNumber c =
    IfOk-weaker c.refused-in-Err-BadNumber.result _ _
    (λ asked told. refused_number c.args.columns.now c.args.subs.now c.in-Err-BadNumber.place c.in-Err-BadNumber.field-0 (verdict (chars c.args.text.now)) asked c.in-Err-BadNumber.field-0-is c.in-Err-BadNumber.ensures.verdict told)
    c.refused-in-Err-BadNumber.ensures
