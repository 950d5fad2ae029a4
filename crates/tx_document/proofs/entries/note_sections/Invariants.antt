use Rattle.std.proofs.Common.{◌≡◌, length, map}
use Rattle.tx_document.specs.Entries.{section_place}
use Rattle.tx_document.specs.Places.{with_places}
use Rattle.tx_document.proofs.entries.note_sections.Given as goal

abbrev pub invariant-loop-rest : goal.invariant-loop-rest
invariant-loop-rest l = with_places l.places (map section_place l.rest) ≡ with_places l.fn.places (map section_place l.sections)

abbrev pub decreases-loop-rest : goal.decreases-loop-rest
decreases-loop-rest l = length l.rest
