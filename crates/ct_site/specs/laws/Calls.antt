-- Laws of calls that follow each other.
use Rattle.std.specs.Prelude.{ℕ, List, Ok}
use Rattle.std.proofs.Common.{◌∙◌}
use Rattle.ct_base.specs.laws.Moments.{adds_nothing_then}
use Rattle.ct_site.specs.Disks.{DiskView, IsSame, IsSettled, Works}

pub same_then : (old mid new : DiskView) → IsSame old mid → IsSame mid new → IsSame old new
same_then old mid new first second = record {
  image = second.image ∙ first.image;
  crash = λ image left. first.crash image (second.crash image left);
  time = adds_nothing_then old.time mid.time new.time first.time second.time;
  syncs = second.syncs ∙ first.syncs;
}

pub settled_same : (old new : DiskView) (image : List ℕ) → IsSame old new → IsSettled old image → IsSettled new image
settled_same old new image same settled = record { told = same.image ∙ settled.told; only = λ x left. settled.only x (same.crash x left) }

-- what holds of a call that went well holds whatever it gave
pub works_as : {T U : Type 0} (old new : DiskView) (x : T) (y : U) → Works old new (Ok x) → Works old new (Ok y)
works_as old new x y works = record { beside = works.beside; untold = works.untold; kept = works.kept; cause = record { later = works.cause.later; passed = works.cause.passed; failed = tt } }
