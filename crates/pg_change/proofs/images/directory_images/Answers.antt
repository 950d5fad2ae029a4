use Rattle.std.proofs.Common.{sym, subst}
use Rattle.std.specs.Prelude.{map}
use Rattle.pg_directory.specs.Building.{above_of}
use Rattle.pg_directory.specs.Leaves.{leaf_at}
use Rattle.pg_directory.specs.Making.{leaf_writes, above_writes}
use Rattle.pg_change.specs.DirectoryImages.{AreGood}
use Rattle.pg_change.specs.laws.DirectoryImages.{none_good}
use Rattle.pg_change.proofs.ImageSteps.{both_put}
use Rattle.pg_change.proofs.images.directory_images.Goals as goal

pub returns-clause-same : goal.returns-clause-same
returns-clause-same c =
    both_put c.put_upper.new.images c.put_leaves.new.images (leaf_writes (map leaf_at c.args.leaves.items)) (above_writes (map above_of c.args.upper.items)) c.new-images.result
    c.new-images.ensures c.in_ok-put_upper.ensures.same c.in_ok-put_leaves.ensures.same

pub returns-clause-good : goal.returns-clause-good
returns-clause-good c = c.in_ok-put_leaves.ensures.good (c.in_ok-put_upper.ensures.good (subst AreGood (sym c.new-images.ensures) none_good))
