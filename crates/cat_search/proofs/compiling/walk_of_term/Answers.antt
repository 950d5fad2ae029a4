use Rattle.std.proofs.Common.{◌≡◌, ◌∷◌, [], List, sym, ap, ◌∙◌, arith}
use Rattle.std.specs.List.{list_any}
use Rattle.std.proofs.lemmas.Result.{IfOk-weaker}
use Rattle.q_tree.specs.declared.flats.Slot.{Slot}
use Rattle.cat_walk.specs.Places.{has_place}
use Rattle.cat_walk.specs.Walks.{route_of}
use Rattle.cat_search.specs.Words.{phrase_may}
use Rattle.cat_search.proofs.Compiled.{gathered_walk, only_one, single_walk}
use Rattle.cat_search.proofs.compiling.walk_of_term.Goals as goal

pub returns-in-len1-clause-walk : goal.returns-in-len1-clause-walk
returns-in-len1-clause-walk g c = λ m told.
    IfOk-weaker c.walk_of_phrase.result _ _
    (λ walk is.
    single_walk m c.args.stem.now c.as_slice.result.now c.args.phrases.now (route_of walk)
    (only_one c.args.phrases.now c.phrase-item.result c.in-len1.len_at_least (omega (arith, c.in-len1.len_below)) c.phrase-item.is ∙ ap (λ (p : List Slot). p ∷ []) (sym c.as_slice.ensures)) is)
    (c.walk_of_phrase.ensures.walk m told)

pub returns-clause-walk : goal.returns-clause-walk
returns-clause-walk g c = λ m told.
    gathered_walk m c.args.stem.now (λ ws. list_any (phrase_may ws) c.args.phrases.now) c.new-places.result.items c.put_phrases.new.places.items _ c.new-places.ensures.items (c.in_ok-put_phrases.ensures.places m told)
    (c.place_list.ensures.stops (has_place m c.args.stem.now))
