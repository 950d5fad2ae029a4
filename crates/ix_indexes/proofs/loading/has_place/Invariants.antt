use Rattle.std.proofs.Common.{◌≡◌, length}
use Rattle.cat_index.specs.Catalogues.{has_place}
use Rattle.ix_indexes.proofs.loading.has_place.Given as goal

abbrev pub invariant-loop-rest : goal.invariant-loop-rest
invariant-loop-rest l = has_place l.rest l.place ≡ has_place l.places l.place

abbrev pub decreases-loop-rest : goal.decreases-loop-rest
decreases-loop-rest l = length l.rest
