use Rattle.rule_index.proofs.ShapeSteps.{is_anchor_key, no_anchor_key}
use Rattle.rule_index.proofs.shapes.is_anchor_part.Goals as goal

pub returns-in_default : goal.returns-in_default
returns-in_default c = no_anchor_key c.args.part.now c.in_default.ensures.anchor

pub returns : goal.returns
returns c = is_anchor_key c.args.part.now c.in-Some._anchor.now c.in-Some.row.now c.is_row_part.result c.in-Some.ensures.anchor c.in-Some.ensures.short c.is_row_part.ensures
