use Rattle.cat_walk.specs.Places.{has_place}
use Rattle.cat_walk.specs.Walks.{route_of}
use Rattle.cat_walk.proofs.GatheredStops.{stops_added}
use Rattle.cat_walk.proofs.collecting.put_stops.Goals as goal

pub returns-clause-places : goal.returns-clause-places
returns-clause-places g c = λ m told.
    stops_added (has_place m c.args.stem.now) (route_of c.args.walk.now) c.args.places.now.items _ _ (c.in_ok-stops.ensures.places m told) c.in_ok-put_places.ensures
