use Rattle.std.proofs.Common.{◌≡◌, ◌++◌, drop, ℕ}
use Rattle.q_tree.specs.Scores.{term_slots}
use Rattle.ix_cursor.specs.Feeding.{phrases_at}
use Rattle.ix_cursor.proofs.building.feed_of_term.Given as goal

abbrev pub invariant-loop-phrase : goal.invariant-loop-phrase
invariant-loop-phrase g l =
    let postings = g.S.Source.postings l.source in
    (d : ℕ) → phrases_at l.phrases.items d ++ term_slots (postings d) l.stream (drop l.phrase-index l.term) ≡ term_slots (postings d) l.stream l.term
