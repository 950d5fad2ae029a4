use Rattle.db_change.proofs.KeptValues.{TextsSoFar}
use Rattle.db_change.proofs.inserting.texts_in.Given as goal

abbrev pub invariant-loop-value : goal.invariant-loop-value
invariant-loop-value l = TextsSoFar l.fn.values.items l.value-iterator.rest.items l.place l.texts.items
