-- What calls that commit pages or read them leave of the disk, of its count of faults, and of that of its syncs.
use Rattle.std.specs.Prelude.{◌≡◌, ◌≤◌, ℕ, None, Result, Ok, Err, refl}
use Rattle.ct_base.specs.Moments.{Grows}
use Rattle.ct_site.specs.Disks.{DiskView, IsSame}
use Rattle.pg_journal.specs.Syncs.{SyncsAtMost}
use Rattle.ct_keep.specs.declared.keepers.KeepFault.{KeepFault}
use Rattle.ct_keep.specs.declared.keepers.KeepFault.TheVariants.{Memory, Full, Disk}
use Rattle.ct_keep.specs.KeeperViews.{disk_faults_after, fault_of}

-- Disk is answered exactly where a call of the disk failed: the disk's count of faults rose by one, or stands at its end. After every
-- other answer the count is as it was. The disk was synced four times at most.
pub record CommitsPages {T : Type 0} (old new : DiskView) (result : Result T KeepFault) : Type 0 where
  pub beside : new.beside ≡ old.beside
  pub untold : old.image ≡ None → new.image ≡ None
  pub kept : Grows old.time new.time
  pub later : old.faults ≤ new.faults
  pub faults : new.faults ≡ disk_faults_after (fault_of result) old.faults
  pub syncs : SyncsAtMost 4 old new

-- What a call that reads pages leaves of the disk, which to a reader is as it was, and of its count of faults.
pub record ReadsPages {T : Type 0} (old new : DiskView) (result : Result T KeepFault) : Type 0 where
  pub same : IsSame old new
  pub beside : new.beside ≡ old.beside
  pub kept : Grows old.time new.time
  pub later : old.faults ≤ new.faults
  pub faults : new.faults ≡ disk_faults_after (fault_of result) old.faults

-- an answer that isn't Disk leaves the count
pub same_faults : {T : Type 0} (result : Result T KeepFault) (n : ℕ) → (result ≡ Err Disk → ⊥) → n ≡ disk_faults_after (fault_of result) n
same_faults (Ok x) n other = refl
same_faults (Err Memory) n other = refl
same_faults (Err Full) n other = refl
same_faults (Err Disk) n other = absurd (other refl)

-- ---- examples: one fault is counted, want of memory isn't
one_fault : disk_faults_after (fault_of {T = ℕ} (Err Disk)) 4 ≡ 5
one_fault = refl

no_fault : disk_faults_after (fault_of {T = ℕ} (Err Memory)) 4 ≡ 4
no_fault = refl
