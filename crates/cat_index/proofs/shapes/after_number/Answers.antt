use Rattle.std.proofs.Common.{sym, ◌∙◌}
use Rattle.std.proofs.lemmas.Bool.{false≢true}
use Rattle.cat_index.specs.PartReadings.{too_short}
use Rattle.cat_index.proofs.ShapeSteps.{number_follows, no_number}
use Rattle.cat_index.proofs.shapes.after_number.Goals as goal

pub returns-in_default : goal.returns-in_default
returns-in_default c = too_short c.args.bytes.now c.in_default.ensures.cases

pub returns-then-is_row_part : goal.returns-then-is_row_part
returns-then-is_row_part c = number_follows c.args.bytes.now c.in-Some.number.now c.in-Some.rest.now c.in-Some.ensures.cases (c.is_row_part.ensures.0 c.if-is_row_part.true)

pub returns-else-is_row_part : goal.returns-else-is_row_part
returns-else-is_row_part c = no_number c.args.bytes.now c.in-Some.number.now c.in-Some.rest.now c.in-Some.ensures.cases (λ is. false≢true (sym c.if-is_row_part.false ∙ c.is_row_part.ensures.1 is))
