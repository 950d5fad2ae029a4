-- The heap of a store that gets a directory.
use Rattle.std.specs.Prelude.{◌≡◌, [], drop, Result, Ok, Err, refl}
use Rattle.ct_site.specs.Disks.{DiskView}
use Rattle.ct_keep.specs.declared.keepers.KeepFault.{KeepFault}
use Rattle.ct_keep.specs.declared.keepers.KeepFault.TheVariants.{Memory, Full, Disk}
use Rattle.pg_directory.specs.declared.making.NewDirectory.{NewDirectory}
use Rattle.pg_directory.specs.Making.{new_pages}
use Rattle.pg_heap.specs.Heaps.{HeapState, IsReady}

-- what is in memory with this directory in place of the places of the entries, but for the free pages that it took
abbrev pub with_directory : NewDirectory → HeapState → HeapState
with_directory d heap = record heap {
  top = d.top.page;
  inner = d.inner.items;
  leaves = d.children.items;
  places = [];
}

-- what is in memory once this directory was made: the places of the entries are let go, and those of the pages that it took
abbrev pub directed_state : NewDirectory → HeapState → HeapState
directed_state d heap = record {
  homes = heap.homes;
  cache = heap.cache;
  top = d.top.page;
  inner = d.inner.items;
  leaves = d.children.items;
  places = [];
  free = drop (new_pages d) heap.free;
  weight = heap.weight;
  counts = heap.counts;
}

-- It may be called again, but after Disk.
abbrev pub IsReadyUnlessDisk : {T : Type 0} → Result T KeepFault → DiskView → HeapState → Type 0
IsReadyUnlessDisk (Ok x) disk heap = IsReady disk heap
IsReadyUnlessDisk (Err Memory) disk heap = IsReady disk heap
IsReadyUnlessDisk (Err Full) disk heap = IsReady disk heap
IsReadyUnlessDisk (Err Disk) disk heap = Unit {0}

-- ---- computed example: the top is that of the directory
its_top : (d : NewDirectory) (heap : HeapState) → (directed_state d heap).top ≡ d.top.page
its_top d heap = refl
