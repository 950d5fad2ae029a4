use Rattle.std.proofs.Common.{[], ◌∷◌, ◌++◌, List, ℕ, sym, ap, ◌∙◌}
use Rattle.cat_walk.specs.Places.{has_place}
use Rattle.cat_walk.specs.Walks.{route_of, stops_at}
use Rattle.cat_walk.proofs.GatheredStops.{none_there, one_there}
use Rattle.cat_walk.proofs.collecting.empty_place.Goals as goal

pub returns-then-not-branch-clause-places : goal.returns-then-not-branch-clause-places
returns-then-not-branch-clause-places g c = λ m told.
    none_there (stops_at (has_place m c.args.stem.now) (route_of c.args.walk.now)) c.new-places.result.items c.new-places.ensures.items (sym (c.in_ok-stops_at.ensures.stops m told) ∙ c.if-not-branch.true)

pub returns-clause-places : goal.returns-clause-places
returns-clause-places g c = λ m told.
    one_there (stops_at (has_place m c.args.stem.now) (route_of c.args.walk.now)) c.put_place.new.places.items
    (c.in_ok-put_place.ensures ∙ ap (λ (ps : List (List ℕ)). ps ++ [] ∷ []) c.new-places.ensures.items) (sym (c.in_ok-stops_at.ensures.stops m told) ∙ c.if-not-branch.false)
