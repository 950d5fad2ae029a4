-- A leap to the first document in which a node may score passes no document with a score.
use Rattle.std.proofs.Common.{ℕ, Option, Some, None}
use Rattle.q_tree.specs.Scores.{last_position}
use Rattle.ix_cursor.specs.declared.nodes.Node.{Node}
use Rattle.ix_cursor.specs.Candidates.{Leaps}
use Rattle.ix_cursor.specs.Cursors.{LeapsOver}
use Rattle.ix_cursor.proofs.Silent.{silent_node}

pub leaps_over : (old new : Node) (from : ℕ) (found : Option ℕ) → Leaps old new from found → LeapsOver old new from found
leaps_over old new from None leaps = λ d le lt. silent_node old d (leaps d le) 1 last_position
leaps_over old new from (Some to) leap = record { at_least = leap.at_least; none = λ d le lt. silent_node old d (leap.none d le lt) 1 last_position; keeps = leap.scores }
