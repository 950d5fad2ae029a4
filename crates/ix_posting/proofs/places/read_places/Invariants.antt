use Rattle.std.proofs.Common.{◌-◌}
use Rattle.ix_posting.specs.Places.{ArePlacesAt}
use Rattle.ix_posting.specs.laws.Items.{HasRead}
use Rattle.ix_posting.proofs.places.read_places.Given as goal

abbrev pub invariant-loop : goal.invariant-loop
invariant-loop g l = HasRead (ArePlacesAt g.P.Place.form l.bytes) g.P.Place.form.origin l.at l.count l.places.items l.last l.at_next (l.count - l.counter)
