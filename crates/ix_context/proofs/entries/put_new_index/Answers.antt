use Rattle.std.proofs.Common.{refl}
use Rattle.ix_context.specs.Places.{AtStart}
use Rattle.ix_context.proofs.entries.put_new_index.Goals as goal

pub put_index-requires-clause-place : goal.put_index-requires-clause-place
put_index-requires-clause-place c = AtStart refl
