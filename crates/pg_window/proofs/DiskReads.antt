-- Calls that read pages, by what they answer.
use Rattle.std.proofs.Common.{◌≡◌, Option, Result, Ok, refl, sym, ap, ◌∙◌, arith}
use Rattle.ct_base.specs.laws.Moments.{adds_nothing_itself, grows_itself, grows_then}
use Rattle.ct_site.specs.Disks.{DiskView, IsSame}
use Rattle.ct_keep.specs.declared.keepers.KeepFault.{KeepFault}
use Rattle.ct_keep.specs.KeeperViews.{disk_faults_after, fault_of}
use Rattle.pg_directory.specs.Fetching.{ReadsDisk}

-- a call behind calls of which none has failed
pub reads_after : {T U V : Type 0} (old mid new : DiskView) (x : T) (last : Result U KeepFault) (result : Result V KeepFault) → fault_of result ≡ fault_of last → ReadsDisk old mid (Ok x) → ReadsDisk mid new last → ReadsDisk old new result
reads_after old mid new x last result fault a b = record {
  later = let u = a.later in let v = b.later in omega (arith, u, v);
  untold = λ none. b.untold (a.untold none);
  beside = b.beside ∙ a.beside;
  faults = b.faults ∙ ap (disk_faults_after (fault_of last)) a.faults ∙ ap (λ (o : Option KeepFault). disk_faults_after o old.faults) (sym fault);
  kept = grows_then old.time mid.time new.time a.kept b.kept;
}

-- where no call was made
pub same_none : (disk : DiskView) → IsSame disk disk
same_none disk = record { syncs = refl; time = adds_nothing_itself disk.time; crash = λ image now. now; image = refl }

pub reads_none : (disk : DiskView) → ReadsDisk {T = Unit {0}} disk disk (Ok tt)
reads_none disk = record { faults = refl; later = omega arith; kept = grows_itself disk.time; untold = λ none. none; beside = refl }
