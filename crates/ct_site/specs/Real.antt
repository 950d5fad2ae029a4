-- A site over the real outside: its counts are all that is known of it.
use Rattle.std.specs.Prelude.{◌≡◌, ℕ, List, Bool, false, None, Some, Result, Err, IsErr, refl}
use Rattle.ct_site.specs.Disks.{DiskView}
use Rattle.ct_site.specs.FaultCounts.{faults_after}

pub record RealState : Type 0 where
  -- whether there is a path at which a file can be
  pub has_path : Bool
  -- how many calls of each kind failed, up to 2^64 - 1
  pub hear_faults : ℕ
  pub say_faults : ℕ
  pub disk_faults : ℕ
  -- how often `sync` was called, and how often `hear` answered that the script ends, up to 2^64 - 1
  pub syncs : ℕ
  pub ends : ℕ

-- what it tells: the counts alone
abbrev pub real_view : RealState → DiskView
real_view s = record {
  image = None;
  may_leave = λ image. ⊥;
  beside = record { left = None; said = None; hearings = None; ends = s.ends; hear_faults = s.hear_faults; say_faults = s.say_faults };
  time = record { clock = 0; since = λ t image said. ⊥ };
  faults = s.disk_faults;
  syncs = s.syncs;
}

abbrev pub unused : Bool → RealState
unused has_path = record { has_path = has_path; hear_faults = 0; say_faults = 0; disk_faults = 0; syncs = 0; ends = 0 }

-- a crash may leave what a read gives: no read is told to give anything
pub may_stay : (s : RealState) (image : List ℕ) → (real_view s).image ≡ Some image → (real_view s).may_leave image
may_stay s image is = cc

-- A call of the disk: its fault is counted, and without a path it is one.
pub record UsesFile {T E : Type 0} (old new : RealState) (result : Result T E) : Type 0 where
  pub faults_after : new ≡ record old { disk_faults = faults_after result old.disk_faults }
  pub nowhere : old.has_path ≡ false → IsErr result

-- computed examples: a call of the disk that failed where there is no path, and what is told then
abbrev failed_once : RealState
failed_once = record (unused false) { disk_faults = 1 }

uses_no_file : UsesFile {T = ℕ} {E = ℕ} (unused false) failed_once (Err 7)
uses_no_file = record { faults_after = refl; nowhere = λ is. refl }

tells_counts_alone : (real_view failed_once).image ≡ None
tells_counts_alone = refl
