-- A keeper over the disk of a site, by what is known of the disk and of the heap that it holds.
use Rattle.std.specs.Prelude.{ℕ, ◌≡◌, List, [], ◌∷◌, Option, Some, None, refl}
use Rattle.std.specs.Option.{option_map}
use base.Fml.{GName}
use Rattle.ct_site.specs.Disks.{DiskView, IsNow}
use Rattle.ct_keep.specs.Content.{Content}
use Rattle.ct_keep.specs.Changes.{HoldsWell}
use Rattle.ct_keep.specs.KeeperViews.{KeeperView, Counts}
use Rattle.pg_directory.specs.Holding.{RecoversTo}
use Rattle.pg_directory.specs.ToldMap.{told_map}
use Rattle.pg_heap.specs.Heaps.{HeapState, HeapStands, IsReady, IsDirected}
use Rattle.pg_heap.specs.Recovering.{recovered}

-- It may be called: where the disk tells its image, it stands for pages that hold a map; these have a directory of all entries, or there is
-- no entry; and each entry is one that the keeper may hold.
pub record IsUsable (disk : DiskView) (heap : HeapState) (well : List ℕ → List ℕ → Type 0) : Type 0 where
  pub ready : IsReady disk heap
  pub directed : IsDirected heap
  pub entries : (s : HeapStands disk heap) → HoldsWell well s.held

-- what it holds, where the disk tells its image
abbrev pub told_content : Option (List ℕ) → Option Content
told_content image = option_map told_map image

-- what a crash now leaves, as the map that it recovers to, if any
pub record LeavesNow (disk : DiskView) (stopped : Option Content) (said : List ℕ) : Type 0 where
  pub image : List ℕ
  pub left : IsNow disk image said
  pub is : RecoversTo image stopped

-- what is known of it
abbrev pub paged_view : DiskView → HeapState → (List ℕ → List ℕ → Type 0) → ℕ → Counts → GName → KeeperView
paged_view disk heap well limit counts lender = record {
  ready = IsUsable disk heap well;
  content = told_content disk.image;
  beside = disk.beside;
  time = recovered disk.time;
  now = LeavesNow disk;
  counts = counts;
  disk_faults = disk.faults;
  disk_syncs = disk.syncs;
  well = well;
  fixed = record { say_room = None; limit = limit; lender = Some lender };
}

-- computed examples: of a disk that tells no image nothing is told, and of one that does the map that the image tells
untold : told_content None ≡ None
untold = refl

told : told_content (Some (0x07 ∷ [])) ≡ Some (told_map (0x07 ∷ []))
told = refl
