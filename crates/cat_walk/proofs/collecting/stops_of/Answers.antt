use Rattle.std.proofs.Common.{◌∷◌, [], ◌++◌, List, ℕ, sym, ap, subst, ◌∙◌}
use Rattle.ct_keep.specs.laws.Composing.{reads_on}
use Rattle.cat_walk.specs.Places.{ArePlacesUpTo, has_place}
use Rattle.cat_walk.specs.Walks.{route_of, stops_at}
use Rattle.cat_walk.proofs.Arms.{next_here}
use Rattle.cat_walk.specs.laws.Sparing.{spares_on}
use Rattle.cat_walk.proofs.GatheredStops.{next_there, ends_alike}
use Rattle.cat_walk.proofs.collecting.stops_of.Goals as goal

pub steps-init : goal.steps-init
steps-init g c = record {
  reads = c.in_ok-places.ensures.reads;
  spares = c.in_ok-places.ensures.spares;
  stops = λ m told.
      subst (λ (p : List ℕ). ArePlacesUpTo (stops_at (has_place m c.args.stem.now) (route_of c.args.walk.now)) p c.in_ok-places.places.items) (sym c.new-last.ensures.items) (c.in_ok-places.ensures.places m told);
}

pub steps-preserved : goal.steps-preserved
steps-preserved g c = record {
  reads = reads_on _ _ _ _ c.steps.invariant.reads c.in_ok-here.ensures.reads;
  spares = spares_on _ _ _ _ c.steps.invariant.reads c.steps.invariant.spares c.in_ok-here.ensures.spares;
  stops = λ m told.
      let holds = stops_at (has_place m c.args.stem.now) (route_of c.args.walk.now) in
      next_there holds c.steps.last.items c.in-Some.here.items c.steps.places.items c.put_place.new.places.items (c.steps.invariant.stops m told)
      (next_here holds _ _ _ _ c.deref.ensures.value c.in-Some.is (c.in_ok-here.ensures.next m (c.steps.invariant.reads.content ∙ told)))
      (c.in_ok-put_place.ensures ∙ ap (λ (p : List ℕ). c.steps.places.items ++ p ∷ []) c.deref-in-steps.ensures.value);
}

pub returns-in_default-clause-places : goal.returns-in_default-clause-places
returns-in_default-clause-places g c = λ m told.
    let has = has_place m c.args.stem.now in
    ends_alike has (route_of c.args.walk.now) c.steps.last.items c.steps.places.items (c.steps.invariant.stops m told)
    (next_here (stops_at has (route_of c.args.walk.now)) _ _ _ _ c.deref.ensures.value c.in_default.is (c.in_ok-here.ensures.next m (c.steps.invariant.reads.content ∙ told)))
