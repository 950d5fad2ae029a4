use Rattle.std.proofs.Common.{List, ◌++◌, subst, arith}
use Rattle.pg_directory.specs.Written.{PageWrite}
use Rattle.pg_change.specs.DirectoryImages.{AreSameWrites}
use Rattle.pg_change.proofs.ImageSteps.{leaf_write, leaves_written, all_put}
use Rattle.pg_change.proofs.images.put_leaves.Goals as goal

pub returns-clause-same : goal.returns-clause-same
returns-clause-same c =
    subst (λ (ws : List PageWrite). AreSameWrites c.loop-leaf.images (ws ++ c.args.images.now)) (leaves_written c.args.leaves.items)
    (all_put leaf_write c.args.leaves.items c.args.images.now c.loop-leaf.leaves.items c.loop-leaf.images (omega (arith, c.in_default.ensures.cases)) c.loop-leaf.invariant)

pub returns-clause-good : goal.returns-clause-good
returns-clause-good c = c.loop-leaf.invariant.good
