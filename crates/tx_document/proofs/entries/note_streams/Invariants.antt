use Rattle.std.proofs.Common.{◌≡◌, ◌∷◌, length, map}
use Rattle.tx_document.specs.Documents.{pair}
use Rattle.tx_document.specs.Entries.{DocumentPlace}
use Rattle.tx_document.specs.Places.{with_places}
use Rattle.tx_document.proofs.entries.note_streams.Given as goal

abbrev pub invariant-loop-rest : goal.invariant-loop-rest
invariant-loop-rest l =
    with_places l.places (map {B = DocumentPlace} (λ stream. (stream ∷ l.key, pair l.position l.position)) l.rest)
    ≡ with_places l.fn.places (map {B = DocumentPlace} (λ stream. (stream ∷ l.key, pair l.position l.position)) l.streams)

abbrev pub decreases-loop-rest : goal.decreases-loop-rest
decreases-loop-rest l = length l.rest
