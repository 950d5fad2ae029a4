use Rattle.std.proofs.Common.{◌≡◌, ◌++◌, List, [], map, sym, ap, ◌∙◌, append-nil}
use Rattle.std.specs.FinMap.{entries}
use Rattle.tx_document.specs.Entries.{entry_of}
use Rattle.tx_document.specs.Places.{NamedPlaces, PlaceMap}
use Rattle.tx_document.proofs.SeenMaps.{entries-map_of, named_places}
use Rattle.tx_document.proofs.places.Places.into_entries.Goals as goal

pub returns : goal.returns
returns c =
    let all = c.self.inside.entries.entries in
    let done : c.loop-name.name-iterator ≡ [] = c.in-None.ensures.steps.0 in
    sym (append-nil c.loop-name.list.items)
    ∙ ap (λ (l : List NamedPlaces). c.loop-name.list.items ++ map entry_of (named_places l)) (sym done)
    ∙ c.loop-name.invariant
    ∙ ap (λ (l : List NamedPlaces). map entry_of (named_places l)) c.into_iter-name-iterator.ensures.into_iter_gives.0
    ∙ sym (ap (map entry_of) (entries-map_of all c.self.invariant))
    ∙ ap (λ (m : PlaceMap). map entry_of (entries m)) c.self.view_is
