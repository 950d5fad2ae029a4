use Rattle.std.proofs.Common.{sym, ◌∙◌}
use Rattle.cat_index.proofs.ShapeSteps.{text_follows, no_text}
use Rattle.cat_index.proofs.shapes.after_text.Goals as goal

pub returns-then-is_short_text : goal.returns-then-is_short_text
returns-then-is_short_text c = text_follows c.args.bytes.now c.in-Some.text.now c.in-Some.rest.now c.in-Some.ensures.splits (sym c.is_short_text.ensures ∙ c.if-is_short_text.true)

pub returns-else-is_short_text : goal.returns-else-is_short_text
returns-else-is_short_text c = no_text c.args.bytes.now c.in-Some.text.now c.in-Some.rest.now c.in-Some.ensures.splits (sym c.is_short_text.ensures ∙ c.if-is_short_text.false)
