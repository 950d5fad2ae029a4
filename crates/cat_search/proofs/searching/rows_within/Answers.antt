use Rattle.std.proofs.Common.{◌∙◌}
use Rattle.q_tree.specs.ReducedQueries.{reduced_of}
use Rattle.cat_walk.specs.Walks.{route_of}
use Rattle.cat_search.proofs.Counting.{read_behind, read_none}
use Rattle.cat_search.proofs.WalkSteps.{sub_is_catalogue, walk_there}
use Rattle.cat_search.proofs.searching.rows_within.Goals as goal

pub rows_of_walk-requires-clause-stem : goal.rows_of_walk-requires-clause-stem
rows_of_walk-requires-clause-stem g c = sub_is_catalogue c.args.index.now c.args.sub c.in_ok-stem.stem.items c.deref-2.result.now c.in_ok-stem.ensures c.deref-2.ensures.value

pub returns-clause-rows : goal.returns-clause-rows
returns-clause-rows g c = λ m ts x told holds is has.
    c.rows_of_walk.ensures.rows m ts c.args.index.now x (c.in_ok-walk.ensures.reads.content ∙ told) holds is
    (walk_there m ts c.args.index.now x c.args.sub (reduced_of c.args.flat.now) (route_of c.in_ok-walk.walk) c.in_ok-stem.stem.items c.deref.result.now c.deref-2.result.now holds has c.in_ok-stem.ensures c.deref.ensures.value
    c.deref-2.ensures.value (c.in_ok-walk.ensures.walk m told))

pub returns-clause-texts : goal.returns-clause-texts
returns-clause-texts g c = λ m ts x told holds is has.
    read_behind _ _ _ _ (c.in_ok-walk.ensures.spares.counts (sub_is_catalogue c.args.index.now c.args.sub c.in_ok-stem.stem.items c.deref.result.now c.in_ok-stem.ensures c.deref.ensures.value) m told)
    (c.rows_of_walk.ensures.texts m ts c.args.index.now x (c.in_ok-walk.ensures.reads.content ∙ told) holds is
    (walk_there m ts c.args.index.now x c.args.sub (reduced_of c.args.flat.now) (route_of c.in_ok-walk.walk) c.in_ok-stem.stem.items c.deref.result.now c.deref-2.result.now holds has c.in_ok-stem.ensures c.deref.ensures.value
    c.deref-2.ensures.value (c.in_ok-walk.ensures.walk m told)))

pub returns-in_err-walk-clause-texts : goal.returns-in_err-walk-clause-texts
returns-in_err-walk-clause-texts g c = λ m ts x told holds is has.
    read_none _ _ _ (c.in_err-walk.ensures.spares.counts (sub_is_catalogue c.args.index.now c.args.sub c.in_ok-stem.stem.items c.deref.result.now c.in_ok-stem.ensures c.deref.ensures.value) m told)
