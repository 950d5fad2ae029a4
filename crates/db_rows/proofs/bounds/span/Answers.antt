use Rattle.db_rows.proofs.BoundSteps.{either_within}
use Rattle.db_rows.proofs.bounds.span.Goals as goal

pub returns : goal.returns
returns c = either_within c.args.a c.args.b c.lesser-least.result c.greater-greatest.result c.lesser-least.ensures.first c.lesser-least.ensures.second c.greater-greatest.ensures.first c.greater-greatest.ensures.second
