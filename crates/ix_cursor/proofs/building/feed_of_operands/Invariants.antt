use Rattle.std.proofs.Common.{◌≡◌, ◌++◌, drop, ℕ}
use Rattle.q_tree.specs.Scores.{operand_slots}
use Rattle.ix_cursor.specs.Feeding.{operands_at}
use Rattle.ix_cursor.proofs.building.feed_of_operands.Given as goal

abbrev pub invariant-loop-term : goal.invariant-loop-term
invariant-loop-term g l =
    let postings = g.S.Source.postings l.source in
    (d : ℕ) → operands_at l.operands.items d ++ operand_slots (postings d) l.stream (drop l.term-index l.terms) ≡ operand_slots (postings d) l.stream l.terms
