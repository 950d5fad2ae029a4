-- What a call that applies a batch makes of a heap that looks entries up through its directory, and of its disk.
use Rattle.std.specs.Prelude.{◌≡◌, ◌⊎◌, ℕ, List, Some, Result, Ok, Err}
use Rattle.std.proofs.Common.{inl}
use Rattle.std.specs.Result.{OnOk, OnErr}
use Rattle.ct_site.specs.Disks.{DiskView, IsSame, Leaves}
use Rattle.ct_keep.specs.declared.keepers.KeepFault.{KeepFault}
use Rattle.ct_keep.specs.declared.keepers.KeepFault.TheVariants.{Memory, Full, Disk}
use Rattle.ct_keep.specs.Content.{Content, Change, after}
use Rattle.pg_batch.specs.Counts.{SameCounts}
use Rattle.pg_directory.specs.Holding.{RecoversTo}
use Rattle.pg_change.specs.Commits.{CommitsPages}
use Rattle.pg_heap.specs.Directs.{IsReadyUnlessDisk}
use Rattle.pg_heap.specs.Heaps.{HeapState, HeapStands, IsDirected}

-- an image recovers to the one map or to the other
abbrev pub IsEitherMap : Content → Content → List ℕ → Type 0
IsEitherMap m next image = RecoversTo image (Some m) ⊎ RecoversTo image (Some next)

-- It is as it was, but for the pages that are kept, and for counts that mean the same.
pub record IsUnchanged (old new : HeapState) : Type 0 where
  pub is : new ≡ record old { cache = new.cache; counts = new.counts }
  pub counts : SameCounts old.counts new.counts

-- nothing was written where there was no memory or no room
abbrev pub IsUnwritten : {T : Type 0} → Result T KeepFault → DiskView → DiskView → Type 0
IsUnwritten (Ok x) old new = Unit {0}
IsUnwritten (Err Memory) old new = IsSame old new
IsUnwritten (Err Full) old new = IsSame old new
IsUnwritten (Err Disk) old new = Unit {0}

-- All changes of the batch were made, or none. At each moment the disk recovers to the old map or to the new one.
pub record Applies {T : Type 0} (batch : List Change) (old new : DiskView) (heap heap' : HeapState) (result : Result T KeepFault) : Type 0 where
  pub moments : (s : HeapStands old heap) → Leaves old new (IsEitherMap s.held (after batch s.held))
  -- after Ok the disk stands for pages that hold the new map
  pub stands : (s : HeapStands old heap) → OnOk result ((t : HeapStands new heap') × (t.held ≡ after batch s.held))
  pub ready : IsReadyUnlessDisk result new heap'
  pub directed : OnOk result (IsDirected heap')
  -- after an error the heap means what it did
  pub err : OnErr result (IsUnchanged heap heap')
  pub unwritten : IsUnwritten result old new
  pub commits : CommitsPages old new result

-- ---- computed example: what is either map may be the first
the_first : (m next : Content) (image : List ℕ) → RecoversTo image (Some m) → IsEitherMap m next image
the_first m next image is = inl is
