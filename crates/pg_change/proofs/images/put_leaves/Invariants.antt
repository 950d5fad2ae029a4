use Rattle.std.proofs.Common.{length}
use Rattle.pg_change.proofs.ImageSteps.{HasPut, leaf_write}
use Rattle.pg_change.proofs.images.put_leaves.Given as goal

abbrev pub invariant-loop-leaf : goal.invariant-loop-leaf
invariant-loop-leaf l = HasPut leaf_write l.fn.leaves.items l.leaves.items l.fn.images l.images

abbrev pub decreases-loop-leaf : goal.decreases-loop-leaf
decreases-loop-leaf l = length l.leaves.items
