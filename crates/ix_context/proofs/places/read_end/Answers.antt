use Rattle.std.proofs.Common.{subst}
use Rattle.ix_context.specs.Places.{SpellsPlace}
use Rattle.ix_context.proofs.PlaceSteps.{no_place_read, end_was_read}
use Rattle.ix_context.proofs.places.read_end.Goals as goal

pub returns-in_default-2 : goal.returns-in_default-2
returns-in_default-2 c =
    no_place_read c.args.bytes.now c.in-Some.rest.now c.in-Some.first.now c.in-Some.ensures.cases.0 (subst (SpellsPlace c.in-Some.rest.now) c.in_default-2.is c.in_ok-place.ensures)

pub returns : goal.returns
returns c =
    end_was_read c.args.bytes.now c.in-Some.rest.now c.in-Some.first.now c.in-Some.ensures.cases.0 c.in-Some-tidiness_by.tidiness c.in-Some-2.place c.in-Some-tidiness_by.ensures
    (subst (SpellsPlace c.in-Some.rest.now) c.in-Some-2.is c.in_ok-place.ensures)
