use Rattle.ix_context.specs.laws.Places.{place_read_is}
use Rattle.ix_optimize.proofs.optimizing.put_tidied.Goals as goal

pub put_index-requires-clause-place : goal.put_index-requires-clause-place
put_index-requires-clause-place c = place_read_is c.args.place.now c.requires.place
