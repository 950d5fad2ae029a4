use Rattle.std.proofs.Common.{length}
use Rattle.pg_change.proofs.ImageSteps.{HasPut, upper_write}
use Rattle.pg_change.proofs.images.put_upper.Given as goal

abbrev pub invariant-loop-page : goal.invariant-loop-page
invariant-loop-page l = HasPut upper_write l.fn.upper.items l.upper.items l.fn.images l.images

abbrev pub decreases-loop-page : goal.decreases-loop-page
decreases-loop-page l = length l.upper.items
