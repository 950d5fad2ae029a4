use Rattle.std.proofs.Common.{List, ◌++◌, subst, arith}
use Rattle.pg_directory.specs.Written.{PageWrite}
use Rattle.pg_change.specs.DirectoryImages.{AreSameWrites}
use Rattle.pg_change.proofs.ImageSteps.{upper_write, upper_written, all_put}
use Rattle.pg_change.proofs.images.put_upper.Goals as goal

pub returns-clause-same : goal.returns-clause-same
returns-clause-same c =
    subst (λ (ws : List PageWrite). AreSameWrites c.loop-page.images (ws ++ c.args.images.now)) (upper_written c.args.upper.items)
    (all_put upper_write c.args.upper.items c.args.images.now c.loop-page.upper.items c.loop-page.images (omega (arith, c.in_default.ensures.cases)) c.loop-page.invariant)

pub returns-clause-good : goal.returns-clause-good
returns-clause-good c = c.loop-page.invariant.good
