use Rattle.std.proofs.Common.{◌≡◌, vec_len}
use Rattle.q_parse.specs.Machine.{query_joined}
use Rattle.q_tree.specs.Trees.{tree_of}
use Rattle.q_parse.specs.Views.{frames_of}
use Rattle.q_parse.proofs.framing.join.Given as goal

abbrev pub invariant-joins : goal.invariant-joins
invariant-joins l = query_joined l.least (frames_of l.frames.items) (tree_of l.operand) ≡ query_joined l.least (frames_of l.fn.frames.items) (tree_of l.fn.operand)

abbrev pub decreases-joins : goal.decreases-joins
decreases-joins l = vec_len l.frames
