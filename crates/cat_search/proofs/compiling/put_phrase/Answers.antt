use Rattle.std.proofs.Common.{◌∙◌, arith}
use Rattle.std.proofs.lemmas.Result.{IfOk-weaker}
use Rattle.cat_walk.specs.Walks.{route_of}
use Rattle.cat_search.specs.Words.{phrase_may}
use Rattle.cat_search.proofs.Compiled.{only_one, single_adds, stops_add}
use Rattle.cat_search.proofs.compiling.put_phrase.Goals as goal

pub returns-in-len1-clause-places : goal.returns-in-len1-clause-places
returns-in-len1-clause-places g c = λ m told.
    IfOk-weaker c.put_slot.result _ _
    (λ u adds.
    single_adds m c.args.stem.now c.slot-item.result c.args.phrase.now c.args.places.now.items c.put_slot.new.places.items
    (only_one c.args.phrase.now c.slot-item.result c.in-len1.len_at_least (omega (arith, c.in-len1.len_below)) c.slot-item.is) c.requires.phrase adds)
    (c.put_slot.ensures.places m told)

pub returns-clause-places : goal.returns-clause-places
returns-clause-places g c = λ m told.
    IfOk-weaker c.put_stops.result _ _
    (λ u adds. stops_add m c.args.stem.now (λ ws. phrase_may ws c.args.phrase.now) (route_of c.in_ok-walk.walk) c.args.places.now.items c.put_stops.new.places.items (c.in_ok-walk.ensures.walk m told) adds)
    (c.put_stops.ensures.places m (c.in_ok-walk.ensures.reads.content ∙ told))
