use Rattle.db_rows.proofs.BoundSteps.{both_within}
use Rattle.db_rows.proofs.bounds.overlap.Goals as goal

pub returns : goal.returns
returns c = both_within c.args.a c.args.b c.greater-least.result c.lesser-greatest.result c.greater-least.ensures.first c.greater-least.ensures.second c.greater-least.ensures.either c.lesser-greatest.ensures.first c.lesser-greatest.ensures.second c.lesser-greatest.ensures.either
