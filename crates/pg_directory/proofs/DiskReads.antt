-- Calls that read pages, by what they answer.
use Rattle.std.proofs.Common.{◌≡◌, ℕ, Option, Result, Ok, Err, refl, sym, ap, ◌∙◌, arith}
use Rattle.ct_base.specs.laws.Moments.{grows_itself, grows_then}
use Rattle.ct_site.specs.declared.outside.Failed.{Failed}
use Rattle.ct_site.specs.Disks.{DiskView, Works}
use Rattle.ct_keep.specs.declared.keepers.KeepFault.{KeepFault}
use Rattle.ct_keep.specs.declared.keepers.KeepFault.TheVariants.{Memory, Full, Disk}
use Rattle.ct_keep.specs.KeeperViews.{disk_faults_after, fault_of}
use Rattle.pg_directory.specs.Fetching.{ReadsDisk}

-- an answer that isn't Disk leaves the count
same_faults : {T : Type 0} (result : Result T KeepFault) (n : ℕ) → (result ≡ Err Disk → ⊥) → n ≡ disk_faults_after (fault_of result) n
same_faults (Ok x) n other = refl
same_faults (Err Memory) n other = refl
same_faults (Err Full) n other = refl
same_faults (Err Disk) n other = absurd (other refl)

-- no call was made
pub reads_itself : {T : Type 0} (disk : DiskView) (result : Result T KeepFault) → (result ≡ Err Disk → ⊥) → ReadsDisk disk disk result
reads_itself disk result other = record { beside = refl; untold = λ none. none; kept = grows_itself disk.time; later = omega arith; faults = same_faults result disk.faults other }

-- no call was made yet
pub reads_none : (disk : DiskView) → ReadsDisk {T = Unit {0}} disk disk (Ok tt)
reads_none disk = record { beside = refl; untold = λ none. none; kept = grows_itself disk.time; later = omega arith; faults = refl }

-- one call went well
pub reads_first : {T : Type 0} (old new : DiskView) (x : T) → Works old new (Ok x) → ReadsDisk {T = Unit {0}} old new (Ok tt)
reads_first old new x works = record { beside = works.beside; untold = works.untold; kept = works.kept; later = works.cause.later; faults = works.cause.passed }

-- one call more went well
pub reads_further : {T : Type 0} (old mid new : DiskView) (x : T) → ReadsDisk {T = Unit {0}} old mid (Ok tt) → Works mid new (Ok x) → ReadsDisk {T = Unit {0}} old new (Ok tt)
reads_further old mid new x a works = record {
  beside = works.beside ∙ a.beside;
  untold = λ none. works.untold (a.untold none);
  kept = grows_then old.time mid.time new.time a.kept works.kept;
  later = let b = works.cause.later in omega (arith, a.later, b);
  faults = works.cause.passed ∙ a.faults;
}

-- a call went well, and the answer isn't Disk
pub reads_went : {T U : Type 0} (old new : DiskView) (x : T) (result : Result U KeepFault) → (result ≡ Err Disk → ⊥) → Works old new (Ok x) → ReadsDisk old new result
reads_went old new x result other works = record {
  beside = works.beside;
  untold = works.untold;
  kept = works.kept;
  later = works.cause.later;
  faults = works.cause.passed ∙ same_faults result old.faults other;
}

-- a call failed
pub reads_failed : {T U : Type 0} (old new : DiskView) (x : Failed) → Works {T = T} old new (Err x) → ReadsDisk {T = U} old new (Err Disk)
reads_failed old new x works = record {
  beside = works.beside;
  untold = works.untold;
  kept = works.kept;
  later = works.cause.later;
  faults = works.cause.failed;
}

-- a call that failed, whatever it gave
pub reads_fault : {T U : Type 0} (old new : DiskView) (r : Result T Failed) → ((x : T) → r ≡ Ok x → ⊥) → Works old new r → ReadsDisk {T = U} old new (Err Disk)
reads_fault old new (Ok x) other works = absurd (other x refl)
reads_fault old new (Err x) other works = reads_failed old new x works

-- one after the other
pub reads_then : {T U V : Type 0} (old mid new : DiskView) (x : T) (second : Result U KeepFault) (result : Result V KeepFault) → fault_of result ≡ fault_of second → ReadsDisk old mid (Ok x) → ReadsDisk mid new second → ReadsDisk old new result
reads_then old mid new x second result fault a b = record {
  beside = b.beside ∙ a.beside;
  untold = λ none. b.untold (a.untold none);
  kept = grows_then old.time mid.time new.time a.kept b.kept;
  later = omega (arith, a.later, b.later);
  faults = b.faults ∙ ap (disk_faults_after (fault_of second)) a.faults ∙ ap (λ (o : Option KeepFault). disk_faults_after o old.faults) (sym fault);
}
