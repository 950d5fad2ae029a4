-- Calls of a disk that only read.
use Rattle.std.proofs.Common.{ℕ, List, Ok, refl, ◌∙◌, arith}
use Rattle.ct_base.specs.laws.Moments.{adds_nothing_itself, grows_itself, grows_then}
use Rattle.ct_site.specs.Disks.{DiskView, IsSame}
use Rattle.ct_site.specs.laws.Calls.{settled_same}
use Rattle.pg_directory.specs.Fetching.{ReadsDisk}
use Rattle.pg_directory.specs.Trees.{StorePage}
use Rattle.pg_directory.specs.Looking.{DiskHolds}

-- no call was made yet
pub same_yet : (disk : DiskView) → IsSame disk disk
same_yet disk = record { image = refl; crash = λ image now. now; time = adds_nothing_itself disk.time; syncs = refl }

-- what the disk holds it holds after calls that only read
pub holds_still : (old new : DiskView) (homes top : ℕ) (pages : List StorePage) → IsSame old new → DiskHolds old homes top pages → DiskHolds new homes top pages
holds_still old new homes top pages same h =
    let s = h.stands in
    record { stands = record { image = s.image; settled = settled_same old new s.image same s.settled; shut = s.shut }; are = h.are; count = h.count }

-- two calls that went well
pub reads_on : {T U V : Type 0} (old mid new : DiskView) (x : T) (y : U) (z : V) → ReadsDisk old mid (Ok x) → ReadsDisk mid new (Ok y) → ReadsDisk old new (Ok z)
reads_on old mid new x y z a b = record {
  beside = b.beside ∙ a.beside;
  untold = λ none. b.untold (a.untold none);
  kept = grows_then old.time mid.time new.time a.kept b.kept;
  later = omega (arith, a.later, b.later);
  faults = b.faults ∙ a.faults;
}

pub reads_yet : (disk : DiskView) → ReadsDisk {T = Unit {0}} disk disk (Ok tt)
reads_yet disk = record { beside = refl; untold = λ none. none; kept = grows_itself disk.time; later = omega arith; faults = refl }
