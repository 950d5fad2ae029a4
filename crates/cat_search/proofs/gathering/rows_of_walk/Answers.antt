use Rattle.std.proofs.Common.{map, ap, ◌∙◌}
use Rattle.ct_base.specs.declared.numbers.RowKey.{RowKey}
use Rattle.ct_keep.specs.laws.Composing.{reads_none, reads_on}
use Rattle.q_tree.specs.ReducedQueries.{reduced_of}
use Rattle.cat_walk.specs.Places.{has_place}
use Rattle.cat_walk.specs.Walks.{route_of, stops_at}
use Rattle.cat_search.proofs.WalkSteps.{next_is, no_next, rows_begin, rows_on, rows_end, texts_begin, texts_on, texts_end, texts_stay}
use Rattle.cat_search.proofs.gathering.rows_of_walk.Goals as goal

pub steps-init : goal.steps-init
steps-init g c = record {
  reads = reads_none _ c.requires.ready;
  found = λ m ts i x told holds is stops.
      let q = reduced_of c.args.flat.now in
      let taken = g.R.PlaceRange.takes c.args.range.now in
      let has = has_place m c.args.stem.now in
      let route = route_of c.args.walk.now in
      rows_begin m ts i x c.args.catalogue.now q holds is c.requires.query.boolean c.requires.query.sound c.args.sub taken has route stops c.is_exact-exact.result c.is_exact-exact.ensures c.first.result.now c.in_ok-last.last.items
      (map (λ (r : RowKey). r.0) c.new-rows.result.items) c.in_ok-last.ensures (ap (map (λ (r : RowKey). r.0)) c.new-rows.ensures.items) c.first.ensures;
  texts = λ m ts i x told holds is stops.
      let q = reduced_of c.args.flat.now in
      let taken = g.R.PlaceRange.takes c.args.range.now in
      let has = has_place m c.args.stem.now in
      let route = route_of c.args.walk.now in
      texts_begin m ts i x c.args.catalogue.now q holds is c.requires.query.boolean c.requires.query.sound c.args.sub taken has route stops c.is_exact-exact.result c.is_exact-exact.ensures c.in_ok-last.last.items _;
}

pub steps-preserved : goal.steps-preserved
steps-preserved g c = record {
  reads = reads_on _ _ _ _ (reads_on _ _ _ _ c.steps.invariant.reads c.in_ok-here.ensures.reads) c.in_ok-try_place.ensures.reads;
  found = λ m ts i x told holds is stops.
      let q = reduced_of c.args.flat.now in
      let taken = g.R.PlaceRange.takes c.args.range.now in
      let has = has_place m c.args.stem.now in
      let route = route_of c.args.walk.now in
      let before = c.steps.invariant.reads.content ∙ told in
      let next = next_is taken (stops_at has route) c.steps.last.items _ _ c.in-Some.here c.deref.ensures.value c.in-Some.is (c.in_ok-here.ensures.next m before) in
      rows_on m ts i x c.args.catalogue.now q holds is c.requires.query.boolean c.requires.query.sound c.args.sub taken has route stops c.is_exact-exact.result c.is_exact-exact.ensures c.steps.last.items c.in-Some.here.items _
      (map (λ (r : RowKey). r.0) c.steps.rows.items) (map (λ (r : RowKey). r.0) c.try_place.new.rows.items) c.deref-in-steps.ensures.value (c.steps.invariant.found m ts i x told holds is stops) next
      (c.in_ok-try_place.ensures.rows m ts (c.in_ok-here.ensures.reads.content ∙ before) holds.tables);
  texts = λ m ts i x told holds is stops.
      let q = reduced_of c.args.flat.now in
      let taken = g.R.PlaceRange.takes c.args.range.now in
      let has = has_place m c.args.stem.now in
      let route = route_of c.args.walk.now in
      let before = c.steps.invariant.reads.content ∙ told in
      let next = next_is taken (stops_at has route) c.steps.last.items _ _ c.in-Some.here c.deref.ensures.value c.in-Some.is (c.in_ok-here.ensures.next m before) in
      texts_on m ts i x c.args.catalogue.now q holds is c.requires.query.boolean c.requires.query.sound c.args.sub taken has route stops c.is_exact-exact.result c.is_exact-exact.ensures c.steps.last.items c.in-Some.here.items _ _ _ _
      (c.steps.invariant.texts m ts i x told holds is stops) next (c.in_ok-here.ensures.spares.counts c.requires.stem m before) c.in_ok-try_place.ensures.texts;
}

pub returns-in_default-clause-rows : goal.returns-in_default-clause-rows
returns-in_default-clause-rows g c = λ m ts i x told holds is stops.
    let q = reduced_of c.args.flat.now in
    let taken = g.R.PlaceRange.takes c.args.range.now in
    let has = has_place m c.args.stem.now in
    let route = route_of c.args.walk.now in
    let before = c.steps.invariant.reads.content ∙ told in
    let none = no_next taken (stops_at has route) c.steps.last.items _ _ c.deref.ensures.value c.in_default.is (c.in_ok-here.ensures.next m before) in
    rows_end m ts i x c.args.catalogue.now q holds is c.requires.query.boolean c.requires.query.sound c.args.sub taken has route stops c.is_exact-exact.result c.is_exact-exact.ensures c.steps.last.items
    (map (λ (r : RowKey). r.0) c.steps.rows.items) (map (λ (r : RowKey). r.0) c.sort_rows.new.rows.items) (c.steps.invariant.found m ts i x told holds is stops) none c.sort_rows.ensures.rise c.sort_rows.ensures.same

pub returns-in_default-clause-texts : goal.returns-in_default-clause-texts
returns-in_default-clause-texts g c = λ m ts i x told holds is stops.
    let q = reduced_of c.args.flat.now in
    let taken = g.R.PlaceRange.takes c.args.range.now in
    let has = has_place m c.args.stem.now in
    let route = route_of c.args.walk.now in
    let before = c.steps.invariant.reads.content ∙ told in
    texts_end m ts i x c.args.catalogue.now q holds is c.requires.query.boolean c.requires.query.sound c.args.sub taken has route stops c.is_exact-exact.result c.is_exact-exact.ensures _ _ _ _
    (c.steps.invariant.texts m ts i x told holds is stops) (c.in_ok-here.ensures.spares.counts c.requires.stem m before)

pub returns-in_err-here-clause-texts : goal.returns-in_err-here-clause-texts
returns-in_err-here-clause-texts g c = λ m ts i x told holds is stops.
    let q = reduced_of c.args.flat.now in
    let taken = g.R.PlaceRange.takes c.args.range.now in
    let has = has_place m c.args.stem.now in
    let route = route_of c.args.walk.now in
    let before = c.steps.invariant.reads.content ∙ told in
    texts_end m ts i x c.args.catalogue.now q holds is c.requires.query.boolean c.requires.query.sound c.args.sub taken has route stops c.is_exact-exact.result c.is_exact-exact.ensures _ _ _ _
    (c.steps.invariant.texts m ts i x told holds is stops) (c.in_err-here.ensures.spares.counts c.requires.stem m before)

pub returns-in_err-try_place-clause-texts : goal.returns-in_err-try_place-clause-texts
returns-in_err-try_place-clause-texts g c = λ m ts i x told holds is stops.
    let q = reduced_of c.args.flat.now in
    let taken = g.R.PlaceRange.takes c.args.range.now in
    let has = has_place m c.args.stem.now in
    let route = route_of c.args.walk.now in
    let before = c.steps.invariant.reads.content ∙ told in
    let next = next_is taken (stops_at has route) c.steps.last.items _ _ c.in-Some.here c.deref.ensures.value c.in-Some.is (c.in_ok-here.ensures.next m before) in
    texts_stay m ts i x c.args.catalogue.now q holds is c.requires.query.boolean c.requires.query.sound c.args.sub taken has route stops c.is_exact-exact.result c.is_exact-exact.ensures _ _ _
    (texts_on m ts i x c.args.catalogue.now q holds is c.requires.query.boolean c.requires.query.sound c.args.sub taken has route stops c.is_exact-exact.result c.is_exact-exact.ensures c.steps.last.items c.in-Some.here.items _ _ _ _
    (c.steps.invariant.texts m ts i x told holds is stops) next (c.in_ok-here.ensures.spares.counts c.requires.stem m before) c.in_err-try_place.ensures.texts)

pub returns-clause-texts : goal.returns-clause-texts
returns-clause-texts g c = λ m ts i x told holds is stops.
    let q = reduced_of c.args.flat.now in
    let taken = g.R.PlaceRange.takes c.args.range.now in
    let has = has_place m c.args.stem.now in
    let route = route_of c.args.walk.now in
    texts_stay m ts i x c.args.catalogue.now q holds is c.requires.query.boolean c.requires.query.sound c.args.sub taken has route stops c.is_exact-exact.result c.is_exact-exact.ensures _ _ _ (c.steps.invariant.texts m ts i x told holds is stops)
