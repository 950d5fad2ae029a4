-- Laws of calls that commit pages.
use Rattle.std.specs.Prelude.{◌≡◌, Result, Ok, Err}
use Rattle.std.proofs.Common.{refl, ◌∙◌, arith}
use Rattle.ct_site.specs.declared.outside.Failed.{Failed}
use Rattle.ct_base.specs.laws.Moments.{adds_nothing_itself, grows_itself}
use Rattle.ct_site.specs.Disks.{DiskView, IsSame, Works}
use Rattle.ct_keep.specs.declared.keepers.KeepFault.{KeepFault}
use Rattle.ct_keep.specs.declared.keepers.KeepFault.TheVariants.{Disk}
use Rattle.pg_journal.specs.Syncs.{SyncsAtMost}
use Rattle.pg_change.specs.Commits.{CommitsPages, ReadsPages, same_faults}

pub same_itself : (disk : DiskView) → IsSame disk disk
same_itself disk = record { image = refl; crash = λ image left. left; time = adds_nothing_itself disk.time; syncs = refl }

-- no call of the disk was made
pub reads_none : {T : Type 0} (disk : DiskView) (result : Result T KeepFault) → (result ≡ Err Disk → ⊥) → ReadsPages disk disk result
reads_none disk result other = record { same = same_itself disk; beside = refl; kept = grows_itself disk.time; later = omega arith; faults = same_faults result disk.faults other }

pub commits_none : {T : Type 0} (disk : DiskView) (result : Result T KeepFault) → (result ≡ Err Disk → ⊥) → CommitsPages disk disk result
commits_none disk result other = record { beside = refl; untold = λ none. none; kept = grows_itself disk.time; later = omega arith; faults = same_faults result disk.faults other; syncs = omega arith }

-- a call of the disk failed
pub commits_failed : {T U : Type 0} (old new : DiskView) (fault : Failed) → Works {T = T} old new (Err fault) → SyncsAtMost 4 old new → CommitsPages {T = U} old new (Err Disk)
commits_failed old new fault works syncs = record { beside = works.beside; untold = works.untold; kept = works.kept; later = works.cause.later; faults = works.cause.failed; syncs = syncs }

-- all of them went well
pub commits_well : {T U : Type 0} (old new : DiskView) (x : T) (result : Result U KeepFault) → (result ≡ Err Disk → ⊥) → Works old new (Ok x) → SyncsAtMost 4 old new → CommitsPages old new result
commits_well old new x result other works syncs =
    record { beside = works.beside; untold = works.untold; kept = works.kept; later = works.cause.later; faults = works.cause.passed ∙ same_faults result old.faults other; syncs = syncs }
