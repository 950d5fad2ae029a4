-- Calls that read pages, one after the other.
use Rattle.std.proofs.Common.{◌≡◌, ℕ, List, Option, Result, Ok, refl, sym, ap, ◌∙◌, arith}
use Rattle.ct_base.specs.laws.Moments.{adds_nothing_itself, grows_itself, grows_then}
use Rattle.ct_site.specs.Disks.{DiskView, IsSame}
use Rattle.ct_site.specs.laws.Calls.{settled_same}
use Rattle.ct_keep.specs.declared.keepers.KeepFault.{KeepFault}
use Rattle.ct_keep.specs.KeeperViews.{disk_faults_after, fault_of}
use Rattle.pg_directory.specs.Fetching.{ReadsDisk}
use Rattle.pg_directory.specs.Looking.{DiskHolds}
use Rattle.pg_directory.specs.Trees.{StorePage}

-- where no call was made
pub same_disk : (disk : DiskView) → IsSame disk disk
same_disk disk = record { image = refl; crash = λ image now. now; time = adds_nothing_itself disk.time; syncs = refl }

pub none_read : (disk : DiskView) → ReadsDisk {T = Unit {0}} disk disk (Ok tt)
none_read disk = record { beside = refl; untold = λ none. none; kept = grows_itself disk.time; later = omega arith; faults = refl }

-- the disk goes on holding what it held
pub goes_on : (old new : DiskView) (homes top : ℕ) (pages : List StorePage) → IsSame old new → DiskHolds old homes top pages → DiskHolds new homes top pages
goes_on old new homes top pages same h = record {
  stands = record { image = h.stands.image; settled = settled_same old new h.stands.image same h.stands.settled; shut = h.stands.shut };
  are = h.are;
  count = h.count;
}

-- a call behind one that went well
pub read_then : {T U V : Type 0} (old mid new : DiskView) (x : T) (second : Result U KeepFault) (result : Result V KeepFault) → fault_of result ≡ fault_of second
    → ReadsDisk old mid (Ok x) → ReadsDisk mid new second → ReadsDisk old new result
read_then old mid new x second result fault first then_ = record {
  beside = then_.beside ∙ first.beside;
  untold = λ none. then_.untold (first.untold none);
  kept = grows_then old.time mid.time new.time first.kept then_.kept;
  later = omega (arith, first.later, then_.later);
  faults = then_.faults ∙ ap (disk_faults_after (fault_of second)) first.faults ∙ ap (λ (o : Option KeepFault). disk_faults_after o old.faults) (sym fault);
}
