use Rattle.ix_optimize.specs.laws.Limited.{makes_content, leaves_fewer, leaves_none, reach_done}
use Rattle.ix_optimize.proofs.laws.limited_optimising_ends.Goals as goal

pub returns : goal.returns
returns c = record { content = makes_content; fewer = leaves_fewer; none = leaves_none; done = reach_done }
