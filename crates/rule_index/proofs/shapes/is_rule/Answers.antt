use Rattle.std.proofs.lemmas.Result.{IfOk-weaker}
use Rattle.rule_index.proofs.ShapeSteps.{is_rule_entry}
use Rattle.rule_index.proofs.shapes.is_rule.Goals as goal

pub returns : goal.returns
returns c = IfOk-weaker c.is_stored.result _ _ (is_rule_entry c.args.part.now c.args.value.now (c.is_row_part.ensures.0 c.if-not-is_row_part.false)) c.is_stored.ensures
