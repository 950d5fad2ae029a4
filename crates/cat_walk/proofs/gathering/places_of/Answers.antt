use Rattle.cat_walk.proofs.GatheredPlaces.{are_places}
use Rattle.cat_walk.proofs.gathering.places_of.Goals as goal

pub returns-clause-places : goal.returns-clause-places
returns-clause-places g c = λ m told.
    are_places m c.args.stem.now c.args.slot.now c.new-places.result.items c.put_slot.new.places.items c.sort_places.new.places.items c.new-places.ensures.items
    (c.in_ok-put_slot.ensures.places m told) c.sort_places.ensures.same
