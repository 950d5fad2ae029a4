-- Keepers in memory. No stop leaves anything else of one than what it is now, so its time has one moment.
use Rattle.std.specs.Prelude.{◌≡◌, ℕ, List, Option, Some, None, refl}
use Rattle.std.proofs.Common.{◌∙◌, sym, subst}
use Rattle.ct_base.specs.Told.{IsSaid}
use Rattle.ct_site.specs.Disks.{Beside}
use Rattle.ct_keep.specs.declared.keepers.KeepFault.{KeepFault}
use Rattle.ct_keep.specs.declared.keepers.KeepFault.TheVariants.{Memory, Disk, Full}
use Rattle.ct_keep.specs.Content.{Content}
use Rattle.ct_keep.specs.Changes.{AnyEntry, HoldsEntries}
use Rattle.ct_keep.specs.KeeperViews.{KeeperView, Counts, IsDurable}

-- It makes no call of a disk, so that none of its calls fails by the disk.
abbrev pub NotDisk : Option KeepFault → Type 0
NotDisk None = Unit {0}
NotDisk (Some Memory) = Unit {0}
NotDisk (Some Full) = Unit {0}
NotDisk (Some Disk) = ⊥

-- the content after a commit that was to make it the next
abbrev pub come_to : Option KeepFault → Content → Content → Content
come_to None old next = next
come_to (Some fault) old next = old

-- what is known of it
abbrev pub in_memory : Content → ℕ → Counts → Beside → Option ℕ → KeeperView
in_memory m limit counts beside say_room = record {
  ready = Unit {0};
  content = Some m;
  beside = beside;
  time = record { clock = 0; since = λ t stopped said. (stopped ≡ Some m) × IsSaid beside.said said };
  now = λ stopped said. (stopped ≡ Some m) × IsSaid beside.said said;
  counts = counts;
  disk_faults = 0;
  disk_syncs = 0;
  well = AnyEntry;
  fixed = record { say_room = say_room; limit = limit; lender = None };
}

pub settled_in_memory : (m : Content) (limit : ℕ) (counts : Counts) (beside : Beside) (say_room : Option ℕ) → IsDurable (in_memory m limit counts beside say_room)
settled_in_memory m limit counts beside say_room = record { here = λ n holds stopped said now. (now.0 ∙ holds, now.1) }

pub holds_in_memory : (m : Content) → HoldsEntries m → (n : Content) → Some m ≡ Some n → HoldsEntries n
holds_in_memory m entries n is = let one : m ≡ n = cc in subst HoldsEntries one entries

pub stays_in_memory : (m n : Content) {told : Option (List ℕ)} (said : List ℕ) → Some m ≡ Some n → IsSaid told said → (Some n ≡ Some m) × IsSaid told said
stays_in_memory m n said is told = (sym is, told)

-- computed examples: a commit that succeeded, and one that was refused
it_came : (old next : Content) → come_to None old next ≡ next
it_came old next = refl

it_stayed : (old next : Content) → come_to (Some Full) old next ≡ old
it_stayed old next = refl
