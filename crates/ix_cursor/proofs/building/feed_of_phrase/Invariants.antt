use Rattle.std.proofs.Common.{◌≡◌, ◌++◌, drop, ℕ}
use Rattle.q_tree.specs.Scores.{phrase_slots}
use Rattle.ix_cursor.specs.Feeding.{slots_at}
use Rattle.ix_cursor.proofs.building.feed_of_phrase.Given as goal

abbrev pub invariant-loop-slot : goal.invariant-loop-slot
invariant-loop-slot g l =
    let postings = g.S.Source.postings l.source in
    (d : ℕ) → slots_at l.slots.items d ++ phrase_slots (postings d) l.stream (drop l.slot-index l.phrase) ≡ phrase_slots (postings d) l.stream l.phrase
