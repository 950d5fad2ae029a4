-- How a run over the store of a site ends, by its status.
use Rattle.std.specs.Prelude.{ℕ, ◌≡◌, ◌==◌, ◌+◌, ◌≤◌, ◌⊎◌, List, Option, Some, refl}
use Rattle.std.proofs.Common.{inr}
use base.Fml.{GName}
use Rattle.ct_base.specs.Causes.{Rose}
use Rattle.ct_site.specs.Disks.{DiskView, IsSettled, Leaves}
use Rattle.ct_keep.specs.Content.{Content}
use Rattle.ct_keep.specs.Changes.{HoldsWell}
use Rattle.ct_keep.specs.KeeperViews.{KeeperView, Counts, counted}
use Rattle.ct_keep.specs.KeeperStates.{no_counts}
use Rattle.pg_journal.specs.declared.faults.LoadFault.{LoadFault}
use Rattle.pg_journal.specs.declared.faults.LoadFault.TheVariants.{Memory, Disk, NotAStore}
use Rattle.pg_journal.specs.Recovered.{Alike, HasNoOpenGate, IsOnlyRead, IsStore, IsUnborn}
use Rattle.pg_directory.specs.Holding.{RecoversTo}
use Rattle.pg_heap.specs.Heaps.{HeapState}
use Rattle.pg_keeper.specs.Loading.{AlikeOrOneMap, HasNoStore, NeedsNoDirectory, StaysAs}
use Rattle.pg_keeper.specs.Paged.{paged_view}
use Rattle.pg_keeper.specs.laws.Loading.{foreign_moments}
use Rattle.db_arguments.specs.Arguments.{AsksFor, AsksForRows}
use Rattle.db_state.specs.Shapes.{IsStoreEntry}
use Rattle.db_console.specs.Generating.{Generates}
use Rattle.db_console.specs.Limits.{statement_limit, script_limit}
use Rattle.db_console.specs.Table.{Completes, Outcome, status_of}
use Rattle.db_console.specs.declared.endings.Ending.{Ending}

-- The counts of faults after a run with this status: that of hearing rose by one exactly with 3, that of saying with 4, that of the disk with 6.
pub record SiteFaultsBy (status : ℕ) (old new : DiskView) : Type 0 where
  pub hear : new.beside.hear_faults ≡ counted (status == 3) old.beside.hear_faults
  pub say : new.beside.say_faults ≡ counted (status == 4) old.beside.say_faults
  pub disk : new.faults ≡ counted (status == 6) old.faults

-- a keeper over the disk of a site, with its heap
abbrev pub store_view : DiskView → HeapState → ℕ → Counts → GName → KeeperView
store_view disk heap limit counts name = paged_view disk heap IsStoreEntry limit counts name

-- The same with this content, before its first call. Where the heap is still to be loaded, the content is the map that the image recovers to.
abbrev pub opening_view : Option Content → DiskView → HeapState → ℕ → GName → KeeperView
opening_view content disk heap limit name = record (store_view disk heap limit no_counts name) { content = content }

-- The script was served over a heap of this content, and then over a later one. The content may weigh `store`. Loading the heap took at
-- most `loading` syncs. `opened` is the disk's count then, and the outcome counts on from there.
pub record ServedHeap (limit most store loading : ℕ) (content : Option Content) (old new : DiskView) (ending : Ending) : Type 0 where
  pub opened : ℕ
  pub loads : opened ≤ old.syncs + loading
  pub name : GName
  pub heap : HeapState
  pub later : HeapState
  pub counts : Counts
  pub outcome : Outcome limit most (opening_view content (record old { syncs = opened }) heap store name) (store_view new later store counts name) ending

-- the same, within the limits of a run, by its status
abbrev pub ServesHeap : ℕ → ℕ → Option Content → DiskView → DiskView → ℕ → Type 0
ServesHeap store loading content old new status = (ending : Ending) × (status ≡ status_of ending) × ServedHeap statement_limit script_limit store loading content old new ending

-- ---- loading

abbrev pub status_of_load : LoadFault → ℕ
status_of_load Memory = 5
status_of_load Disk = 6
status_of_load NotAStore = 7

-- The store couldn't be loaded: nothing was heard or said. What a crash left meanwhile, or leaves now, recovers to what the image did: to the
-- same pages, or, where the store was to get a directory, to pages that hold the same map. A file that isn't unborn, has no batch under way and
-- needs no directory is unchanged, and so it was at each moment. A file that is refused is so too, unless a batch was under way, which was put
-- home.
pub record NotLoaded (image : List ℕ) (fault : LoadFault) (old new : DiskView) : Type 0 where
  pub beside : new.beside ≡ old.beside
  pub leaves : Leaves old new (AlikeOrOneMap IsStoreEntry image)
  pub kept : IsOnlyRead image → NeedsNoDirectory IsStoreEntry image → StaysAs image old new
  pub refused : fault ≡ NotAStore → HasNoOpenGate image → StaysAs image old new

-- So of a file that is no store: what a crash left recovers to the same pages, and one that isn't unborn and has no batch under way is unchanged.
foreign_same : (image : List ℕ) (fault : LoadFault) (old new : DiskView) → HasNoStore IsStoreEntry image → NotLoaded image fault old new → Leaves old new (Alike image) × (IsOnlyRead image → StaysAs image old new)
foreign_same image fault old new none n = (foreign_moments IsStoreEntry old new image none n.leaves, λ only. n.kept only (inr (inr none)))

-- a run whose store couldn't be loaded, by its status
abbrev pub FailsToLoad : List ℕ → DiskView → DiskView → ℕ → Type 0
FailsToLoad image old new status = (fault : LoadFault) × (status ≡ status_of_load fault) × NotLoaded image fault old new

-- ---- a run

-- Loading took so many syncs: four at most, and four more where the store needed a directory.
pub record LoadSyncs (image : List ℕ) (loading : ℕ) : Type 0 where
  pub most : loading ≤ 8
  pub needless : NeedsNoDirectory IsStoreEntry image → loading ≤ 4

-- What a run did with this status over an image that recovers to the map m. It served the script over a heap that holds m, which it loaded
-- with so many syncs; or there was no memory to load it, or the disk failed then.
abbrev pub RanOver : ℕ → List ℕ → Content → DiskView → DiskView → ℕ → Type 0
RanOver store image m old new status =
    ((loading : ℕ) × LoadSyncs image loading × ServesHeap store loading (Some m) old new status)
    ⊎ (((status ≡ 5) ⊎ (status ≡ 6)) × FailsToLoad image old new status)

-- what holds of each image that recovers to a map, where nothing was pending
abbrev pub OverStores : DiskView → (List ℕ → Content → Type 0) → Type 0
OverStores disk holds = (image : List ℕ) (m : Content) → IsSettled disk image → RecoversTo image (Some m) → HoldsWell IsStoreEntry m → holds image m

-- what holds of each image that is no store
abbrev pub OverForeign : DiskView → (List ℕ → Type 0) → Type 0
OverForeign disk holds = (image : List ℕ) → IsSettled disk image → HasNoStore IsStoreEntry image → holds image

-- what holds of a run where the arguments of the command ask for a store
abbrev pub OfStore : List (List ℕ) → Type 0 → Type 0
OfStore arguments holds = (file : List ℕ) (limit : ℕ) → AsksFor arguments file limit → holds

-- what holds of a run where they ask for a generated script
abbrev pub OfScript : List (List ℕ) → (ℕ → Type 0) → Type 0
OfScript arguments holds = (rows : ℕ) → AsksForRows arguments rows → holds rows

-- what was generated and said with this status, by the number of rows that they ask for
abbrev pub GeneratesBy : List (List ℕ) → DiskView → DiskView → ℕ → Type 0
GeneratesBy arguments old new status = OfScript arguments (λ rows. Generates rows status old new)

-- what a run did with this status, by the arguments of the command: over each store, and over each file that is none
abbrev pub RunsBy : List (List ℕ) → DiskView → DiskView → ℕ → Type 0
RunsBy arguments old new status = OverStores old (λ image m. (file : List ℕ) (limit : ℕ) → AsksFor arguments file limit → RanOver limit image m old new status)

abbrev pub RefusesBy : List (List ℕ) → DiskView → DiskView → ℕ → Type 0
RefusesBy arguments old new status = OverForeign old (λ image. (file : List ℕ) (limit : ℕ) → AsksFor arguments file limit → FailsToLoad image old new status)

-- By its status a run tells of the file, whatever was pending on it: 7 comes of no store alone, and of no store nothing but 5, 6 and 7.
-- Of a file that is neither unborn nor a store by its mark and its length nothing comes but 6 and 7: no memory is wanted for it.
pub record TellsOfStore (image : List ℕ) (status : ℕ) : Type 0 where
  pub refused : status ≡ 7 → HasNoStore IsStoreEntry image
  pub foreign : HasNoStore IsStoreEntry image → (status ≡ 5) ⊎ (status ≡ 6) ⊎ (status ≡ 7)
  pub unmarked : (IsUnborn image ⊎ IsStore image → ⊥) → (status ≡ 6) ⊎ (status ≡ 7)

-- of the image that a read gave, where it is told
abbrev pub TellsBy : DiskView → ℕ → Type 0
TellsBy old status = (image : List ℕ) → old.image ≡ Some image → TellsOfStore image status

-- the same, unless there was no memory for the arguments, and this holds, that nothing was done
abbrev pub TellsUnless : Type 0 → DiskView → ℕ → Type 0
TellsUnless nothing old status = ((status ≡ 5) × nothing) ⊎ TellsBy old status

-- Without a fault of a device a script that isn't too long is served to its end, unless there is no memory.
abbrev pub CompletesRun : ℕ → DiskView → DiskView → Type 0
CompletesRun status old new = Completes script_limit status old.beside new.beside (¬ Rose old.faults new.faults)

-- computed examples
refused_file : status_of_load NotAStore ≡ 7
refused_file = refl

one_disk_fault : counted (status_of_load Disk == 6) 3 ≡ 4
one_disk_fault = refl
