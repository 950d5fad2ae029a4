use Rattle.cat_walk.specs.Places.{has_place}
use Rattle.cat_walk.specs.Walks.{route_of, stops_at}
use Rattle.cat_search.proofs.WalkSteps.{none_within, past_within, some_within}
use Rattle.cat_search.proofs.gathering.next_within.Goals as goal

pub returns-in_default-clause-next : goal.returns-in_default-clause-next
returns-in_default-clause-next g c = λ m told.
    none_within (g.R.PlaceRange.takes c.args.range.now) (stops_at (has_place m c.args.stem.now) (route_of c.args.walk.now)) c.args.after.now _ c.in_default.is (c.in_ok-here.ensures.next m told)

pub returns-then-past-clause-next : goal.returns-then-past-clause-next
returns-then-past-clause-next g c = λ m told.
    past_within (g.R.PlaceRange.takes c.args.range.now) (stops_at (has_place m c.args.stem.now) (route_of c.args.walk.now)) c.args.after.now _ c.in-Some.here _ c.in-Some.is c.deref.ensures.value
    (c.is_past-past.ensures c.if-past.true) (c.in_ok-here.ensures.next m told)

pub returns-clause-next : goal.returns-clause-next
returns-clause-next g c = λ m told.
    some_within (g.R.PlaceRange.takes c.args.range.now) (stops_at (has_place m c.args.stem.now) (route_of c.args.walk.now)) c.args.after.now _ c.in-Some.here c.in-Some.is (c.in_ok-here.ensures.next m told)
