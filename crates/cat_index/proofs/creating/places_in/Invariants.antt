use Rattle.std.proofs.Common.{◌≡◌, ◌++◌, length}
use Rattle.cat_index.specs.Catalogues.{places_in}
use Rattle.cat_index.proofs.creating.places_in.Given as goal

abbrev pub invariant-loop-rest : goal.invariant-loop-rest
invariant-loop-rest l = l.places.items ++ places_in l.columns l.rest ≡ places_in l.columns l.subs

abbrev pub decreases-loop-rest : goal.decreases-loop-rest
decreases-loop-rest l = length l.rest
