use Rattle.std.proofs.Common.{◌≡◌, length}
use Rattle.ix_slots.specs.SlotLists.{first_in, at_places}
use Rattle.ix_slots.proofs.slot_lists.first_at.Given as goal

abbrev pub invariant-loop-rest : goal.invariant-loop-rest
invariant-loop-rest g l =
    let at = g.T.InStream.at in
    first_in at l.stream l.slot (at_places l.items l.rest) ≡ first_in at l.stream l.slot (at_places l.items l.places)

abbrev pub decreases-loop-rest : goal.decreases-loop-rest
decreases-loop-rest g l = length l.rest
