use Rattle.std.proofs.Common.{◌≡◌, ◌++◌, length}
use Rattle.ix_posting.specs.Forms.{places_bytes}
use Rattle.ix_posting.proofs.places.put_each.Given as goal

abbrev pub invariant-loop-rest : goal.invariant-loop-rest
invariant-loop-rest g l = l.out.items ++ places_bytes g.P.Place.form l.last l.rest ≡ l.fn.out.items ++ places_bytes g.P.Place.form g.P.Place.form.origin l.places

abbrev pub decreases-loop-rest : goal.decreases-loop-rest
decreases-loop-rest g l = length l.rest
