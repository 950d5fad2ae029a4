-- What loading a store gives, and when there is none.
use Rattle.std.specs.Prelude.{◌≡◌, ℕ, ◌+◌, ◌*◌, ◌^◌, ◌≤◌, ◌<◌, ◌⊎◌, List, [], length, Some, None, Result, Err, IfOk, refl}
use Rattle.std.proofs.Common.{inl, inr, arith}
use Rattle.ct_site.specs.Disks.{DiskView, IsSettled, Leaves}
use Rattle.ct_site.specs.Lengths.{Lengthens}
use Rattle.ct_keep.specs.Content.{Content}
use Rattle.ct_keep.specs.Changes.{HoldsWell}
use Rattle.pg_journal.specs.Pages.{home, top_in}
use Rattle.pg_journal.specs.Recovered.{Alike, HasNoOpenGate, IsOnlyRead, IsRecovered, first_pages}
use Rattle.pg_journal.specs.Syncs.{SyncsAtMost}
use Rattle.pg_journal.specs.declared.faults.LoadFault.{LoadFault}
use Rattle.pg_journal.specs.declared.faults.LoadFault.TheVariants.{NotAStore}
use Rattle.pg_map.specs.MapReading.{nothing}
use Rattle.pg_directory.specs.Holding.{RecoversTo, born_holds}
use Rattle.pg_heap.specs.Heaps.{HeapState, HeapStands}

-- It recovers to nothing, or to a map with an entry that isn't well shaped.
abbrev pub HasNoStore : (List ℕ → List ℕ → Type 0) → List ℕ → Type 0
HasNoStore well image = RecoversTo image None ⊎ ((m : Content) × RecoversTo image (Some m) × (HoldsWell well m → ⊥))

-- ---- what a crash leaves

-- What a crash might leave before, or what recovers to the pages that the image does.
abbrev pub IsOldOrAlike : DiskView → List ℕ → List ℕ → Type 0
IsOldOrAlike old image left = old.may_leave left ⊎ Alike image left

-- Both images recover to one map, each entry of which is well shaped.
pub record HaveOneMap (well : List ℕ → List ℕ → Type 0) (image left : List ℕ) : Type 0 where
  pub held : Content
  pub entries : HoldsWell well held
  pub was : RecoversTo image (Some held)
  pub is : RecoversTo left (Some held)

-- They recover to the same pages, or to pages that hold the same map, with a directory and without.
abbrev pub AlikeOrOneMap : (List ℕ → List ℕ → Type 0) → List ℕ → List ℕ → Type 0
AlikeOrOneMap well image left = Alike image left ⊎ HaveOneMap well image left

-- What a crash might leave before, or what recovers so.
abbrev pub IsOldOrOneMap : (List ℕ → List ℕ → Type 0) → DiskView → List ℕ → List ℕ → Type 0
IsOldOrOneMap well old image left = old.may_leave left ⊎ AlikeOrOneMap well image left

-- So it is of each image that a read gave before.
abbrev pub LeavesOneMap : (List ℕ → List ℕ → Type 0) → DiskView → DiskView → Type 0
LeavesOneMap well old new = (image : List ℕ) → old.image ≡ Some image → Leaves old new (IsOldOrOneMap well old image)

-- ---- what stays

-- The file is as it was; so it is after a crash now, and so it would have been after one at any moment meanwhile.
pub record StaysAs (image : List ℕ) (old new : DiskView) : Type 0 where
  pub settled : IsSettled new image
  pub leaves : Leaves old new (λ left. left ≡ image)

-- A file that is refused stays as it was, unless a batch was under way in it.
abbrev pub RefusedStays : {T : Type 0} → DiskView → DiskView → Result T LoadFault → Type 0
RefusedStays old new result = (image : List ℕ) → IsSettled old image → HasNoOpenGate image → result ≡ Err NotAStore → StaysAs image old new

-- ---- a directory

-- The root of the pages that the image recovers to names the top of a directory: bytes 8 to 11 of page 2 aren't all zero.
pub record NamesDirectory (image : List ℕ) : Type 0 where
  pub pages : List (List ℕ)
  pub recovered : IsRecovered image pages
  pub named : 1 ≤ top_in (home pages 2)

-- Loading makes no directory for it: it has one, or no entry, or it is no store of such entries.
abbrev pub NeedsNoDirectory : (List ℕ → List ℕ → Type 0) → List ℕ → Type 0
NeedsNoDirectory well image = NamesDirectory image ⊎ RecoversTo image (Some nothing) ⊎ HasNoStore well image

-- No directory was made: the disk was synced four times at most, a crash left what it might have left before, or what recovers to the same
-- pages, and the file is no longer than it was or than a new store.
pub record OnlyLoads (image : List ℕ) (old new : DiskView) : Type 0 where
  pub syncs : SyncsAtMost 4 old new
  pub moments : Leaves old new (IsOldOrAlike old image)
  pub length : Lengthens 12288 old new

-- So it is where none is needed.
abbrev pub OnlyLoadsNeedless : (List ℕ → List ℕ → Type 0) → DiskView → DiskView → Type 0
OnlyLoadsNeedless well old new = (image : List ℕ) → old.image ≡ Some image → NeedsNoDirectory well image → OnlyLoads image old new

-- A file on which loading has nothing to write stays as it was, whatever the answer.
abbrev pub OnlyReadStays : (List ℕ → List ℕ → Type 0) → DiskView → DiskView → Type 0
OnlyReadStays well old new = (image : List ℕ) → IsSettled old image → IsOnlyRead image → NeedsNoDirectory well image → StaysAs image old new

-- ---- what is loaded

-- The disk stands for pages that hold the map to which the image recovers that a read gave before.
abbrev pub LoadsMap : DiskView → DiskView → Result HeapState LoadFault → Type 0
LoadsMap old new result = (image : List ℕ) → old.image ≡ Some image → IfOk result (λ heap. (s : HeapStands new heap) × RecoversTo image (Some s.held))

-- ---- how long the file is

-- The image recovers to so many home pages, page 0 and page 1 counted.
pub record HasHomes (image : List ℕ) (homes : ℕ) : Type 0 where
  pub pages : List (List ℕ)
  pub recovered : IsRecovered image pages
  pub count : homes ≡ 2 + length pages

-- What a read gives is no longer than it was or than a new store; or, where it gets a directory, than eight times its home pages, unless
-- the numbers of pages don't last for three times as many.
abbrev pub LengthensLoaded : List ℕ → DiskView → DiskView → Type 0
LengthensLoaded image old new = Lengthens 12288 old new ⊎ ((homes : ℕ) × HasHomes image homes × ((2 ^ 31 < 3 * homes) ⊎ Lengthens (4096 * (8 * homes)) old new))

-- ---- examples: an image that recovers to nothing has no store, whatever entries are taken
of_nothing : (well : List ℕ → List ℕ → Type 0) (image : List ℕ) → RecoversTo image None → HasNoStore well image
of_nothing well image none = inl none

-- an empty file needs no directory, and has three home pages
empty_needs_none : (well : List ℕ → List ℕ → Type 0) → NeedsNoDirectory well []
empty_needs_none well = inr (inl (first_pages, inl (inl (omega arith), refl), born_holds))

three_homes : HasHomes [] 3
three_homes = record { pages = first_pages; recovered = inl (inl (omega arith), refl); count = refl }
