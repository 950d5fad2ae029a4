use Rattle.std.proofs.Common.{◌≡◌, ◌++◌, length, map}
use Rattle.cat_index.specs.Catalogues.{place_of}
use Rattle.cat_index.proofs.creating.places_of.Given as goal

abbrev pub invariant-loop-rest : goal.invariant-loop-rest
invariant-loop-rest l = l.places.items ++ map (place_of l.columns) l.rest ≡ map (place_of l.columns) l.names

abbrev pub decreases-loop-rest : goal.decreases-loop-rest
decreases-loop-rest l = length l.rest
