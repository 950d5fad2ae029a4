use Rattle.std.proofs.Common.{◌||◌, sym, ap, ◌∙◌}
use Rattle.std.proofs.lemmas.Result.{IfOk-weaker}
use Rattle.q_tree.specs.declared.queries.Op.TheVariants.{Or}
use Rattle.q_tree.specs.ReducedQueries.{Both, Term, reduced_of}
use Rattle.cat_walk.specs.Places.{has_place}
use Rattle.cat_walk.specs.Walks.{route_of}
use Rattle.cat_search.specs.Words.{may_meet}
use Rattle.cat_search.proofs.Compiled.{adds_then, gathered_walk, gathers_as, parts_are, stops_add, walk_as}
use Rattle.cat_search.proofs.compiling.+compile.Goals as goal

-- ---- walks

pub compile-returns-in-Term-clause-walk : goal.compile-returns-in-Term-clause-walk
compile-returns-in-Term-clause-walk g t c = λ m told.
    IfOk-weaker c.walk_of_term.result _ _
    (λ walk is. walk_as m c.args.stem.now _ (Term c.as_slice.result.now) _ (ap reduced_of c.in-Term.is ∙ ap Term (sym c.as_slice.ensures)) is)
    (c.walk_of_term.ensures.walk m told)

pub compile-returns-in_ok-put_rows-in-Or-2-clause-walk : goal.compile-returns-in_ok-put_rows-in-Or-2-clause-walk
compile-returns-in_ok-put_rows-in-Or-2-clause-walk g t c = λ m told.
    let x = c.deref-in-Or.result.now in
    let y = c.deref-in-Or-2.result.now in
    walk_as m c.args.stem.now _ (Both Or (reduced_of x) (reduced_of y)) _ (parts_are Or _ c.in-Or.a.value c.in-Or.b.value x y (ap reduced_of c.in-Or.is) c.deref-in-Or.ensures c.deref-in-Or-2.ensures)
    (gathered_walk m c.args.stem.now (λ ws. may_meet (reduced_of x) ws || may_meet (reduced_of y) ws) c.new-places.result.items c.put_rows-in-Or.new.places.items _ c.new-places.ensures.items
    (adds_then m c.args.stem.now (may_meet (reduced_of x)) (may_meet (reduced_of y)) c.new-places.result.items c.put_rows.new.places.items c.put_rows-in-Or.new.places.items (c.in_ok-put_rows-in-Or.ensures.places m told)
    (c.in_ok-put_rows-in-Or-2.ensures.places m (c.in_ok-put_rows-in-Or.ensures.reads.content ∙ told)))
    (c.place_list.ensures.stops (has_place m c.args.stem.now)))

-- ---- places

pub put_rows-returns-in-Term-clause-places : goal.put_rows-returns-in-Term-clause-places
put_rows-returns-in-Term-clause-places g t c = λ m told.
    IfOk-weaker c.put_phrases.result _ _
    (λ u adds. gathers_as m c.args.stem.now _ (Term c.as_slice.result.now) c.args.places.now.items c.put_phrases.new.places.items (ap reduced_of c.in-Term.is ∙ ap Term (sym c.as_slice.ensures)) adds)
    (c.put_phrases.ensures.places m told)

pub put_rows-returns-in_ok-put_rows-in-Or-clause-places : goal.put_rows-returns-in_ok-put_rows-in-Or-clause-places
put_rows-returns-in_ok-put_rows-in-Or-clause-places g t c = λ m told.
    let x = c.deref.result.now in
    let y = c.deref-in-Or.result.now in
    IfOk-weaker c.put_rows-in-Or.result _ _
    (λ u adds.
    gathers_as m c.args.stem.now _ (Both Or (reduced_of x) (reduced_of y)) c.args.places.now.items c.put_rows-in-Or.new.places.items
    (parts_are Or _ c.in-Or.a.value c.in-Or.b.value x y (ap reduced_of c.in-Or.is) c.deref.ensures c.deref-in-Or.ensures)
    (adds_then m c.args.stem.now (may_meet (reduced_of x)) (may_meet (reduced_of y)) c.args.places.now.items c.put_rows.new.places.items c.put_rows-in-Or.new.places.items (c.in_ok-put_rows-in-Or.ensures.places m told) adds))
    (c.put_rows-in-Or.ensures.places m (c.in_ok-put_rows-in-Or.ensures.reads.content ∙ told))

pub put_rows-returns-in_ok-walk-in_default-clause-places : goal.put_rows-returns-in_ok-walk-in_default-clause-places
put_rows-returns-in_ok-walk-in_default-clause-places g t c = λ m told.
    IfOk-weaker c.put_stops.result _ _
    (λ u adds.
    stops_add m c.args.stem.now (may_meet (reduced_of c.args.flat.now)) (route_of c.in_ok-walk-in_default.walk) c.args.places.now.items c.put_stops.new.places.items (c.in_ok-walk-in_default.ensures.walk m told) adds)
    (c.put_stops.ensures.places m (c.in_ok-walk-in_default.ensures.reads.content ∙ told))
