use Rattle.std.proofs.Common.{◌≡◌, length}
use Rattle.tx_document.specs.Places.{with_word_places}
use Rattle.tx_document.proofs.entries.note_words.Given as goal

abbrev pub invariant-loop-rest : goal.invariant-loop-rest
invariant-loop-rest l = with_word_places l.places l.rest ≡ with_word_places l.fn.places l.words

abbrev pub decreases-loop-rest : goal.decreases-loop-rest
decreases-loop-rest l = length l.rest
