use Rattle.std.proofs.Common.{◌-◌}
use Rattle.ix_posting.specs.Places.{ArePlacesAt}
use Rattle.ix_posting.proofs.PassSteps.{HasPassed}
use Rattle.ix_posting.proofs.passing.pass_places.Given as goal

abbrev pub invariant-loop : goal.invariant-loop
invariant-loop g l = HasPassed (ArePlacesAt g.P.Place.form l.bytes) g.P.Place.form.origin l.at l.count l.last l.next (l.count - l.counter)
