-- A heap whose entries may stand in order in a directory, as contracts see it.
use Rattle.std.specs.Prelude.{◌≡◌, ◌⊎◌, ℕ, ◌-◌, List, [], ◌∷◌, ◌++◌, map, Some, refl}
use Rattle.std.specs.Coded.{Coded, code_by, coded×, coded_ℕ, coded_list}
use Rattle.ct_site.specs.Disks.{DiskView}
use Rattle.ct_keep.specs.Content.{Content, weight}
use Rattle.ct_keep.specs.CountedPairs.{prefix_counts_code}
use Rattle.ct_keep.specs.Counting.{PrefixCounts, AreCounts}
use Rattle.pg_cache.specs.Caches.{IsCacheOf}
use Rattle.pg_journal.specs.Pages.{Numbered}
use Rattle.pg_map.specs.Holding.{IsLayout}
use Rattle.pg_directory.specs.Levels.{pages_of, HasLevels}
use Rattle.pg_directory.specs.Looking.{DiskHolds}
use Rattle.pg_directory.specs.OpenStore.{ArePlaces}
use Rattle.pg_directory.specs.Trees.{StorePage, kind_of, HasNoDirectory}
use Rattle.pg_directory.specs.declared.entries.Child.{Child}
use Rattle.pg_directory.specs.declared.entries.EntryAt.{EntryAt}
use Rattle.pg_directory.specs.declared.stores.OpenStore.{OpenStore}
use Rattle.pg_plan.specs.FreePlaces.{ListsFree}

-- what is in memory: how many home pages its journal knows, the pages that are kept, the page at the top of the directory or 0, the pages of
-- the directory above its leaves, its leaves, the places of the entries where there is no directory, those of free pages, the weight, and how
-- many entries each owner has
pub record HeapState : Type 0 where
  pub homes : ℕ
  pub cache : List Numbered
  pub top : ℕ
  pub inner : List ℕ
  pub leaves : List Child
  pub places : List EntryAt
  pub free : List ℕ
  pub weight : ℕ
  pub counts : PrefixCounts

-- that of a store that was loaded
abbrev pub state_of : ℕ → List Numbered → OpenStore → List ℕ → ℕ → PrefixCounts → HeapState
state_of homes cache store free weight counts = record {
  homes = homes;
  cache = cache;
  top = store.top;
  inner = store.directory.inner.items;
  leaves = store.directory.leaves.items;
  places = store.places.items;
  free = free;
  weight = weight;
  counts = counts;
}

-- the places of the pages of the directory
abbrev pub directory_places : HeapState → List ℕ
directory_places heap = map (λ (n : ℕ). n - 3) (heap.inner ++ pages_of heap.leaves)

-- There is no directory, and the places of all entries are kept.
pub record HasPlaces (pages : List StorePage) (heap : HeapState) : Type 0 where
  pub none : HasNoDirectory pages heap.top
  pub places : ArePlaces pages heap.places
  pub inner : heap.inner ≡ []
  pub leaves : heap.leaves ≡ []

-- There is one, of all entries.
pub record HasDirectory (pages : List StorePage) (heap : HeapState) : Type 0 where
  pub entries : List EntryAt
  pub levels : HasLevels pages heap.top heap.inner heap.leaves entries

-- The disk stands for pages that hold a map, with a directory or without. A page is listed once if it is free or one of the directory.
pub record HeapStands (disk : DiskView) (heap : HeapState) : Type 0 where
  pub pages : List StorePage
  pub held : Content
  pub holds : DiskHolds disk heap.homes heap.top pages
  pub layout : IsLayout (map kind_of pages) held
  pub directory : HasPlaces pages heap ⊎ HasDirectory pages heap
  pub free : ListsFree (map kind_of pages) (heap.free ++ directory_places heap)
  pub weighs : heap.weight ≡ weight held
  pub counted : AreCounts held heap.counts

-- It may be called: where the disk tells its image it stands so, and the pages that are kept are those of the disk.
pub record IsReady (disk : DiskView) (heap : HeapState) : Type 0 where
  pub cache : IsCacheOf disk heap.homes heap.cache
  pub stands : (image : List ℕ) → disk.image ≡ Some image → HeapStands disk heap

-- It has a directory, or no entry.
abbrev pub IsDirected : HeapState → Type 0
IsDirected heap = heap.top ≡ 0 → heap.places ≡ []

-- Other pages may be kept now; all else is as it was.
pub record IsAsBefore (old new : HeapState) : Type 0 where
  pub is : new ≡ record old { cache = new.cache }

-- ---- how its value is stored

abbrev EntryParts : Type 0
EntryParts = ℕ × ℕ

abbrev entry_code : Coded EntryAt
entry_code = code_by EntryParts (coded× coded_ℕ coded_ℕ) (λ (e : EntryAt). (e.page, e.slot)) (λ p. record { page = p.0; slot = p.1 }) (λ _. refl)

abbrev child_code : Coded Child
child_code = code_by (ℕ × EntryAt) (coded× coded_ℕ entry_code) (λ (c : Child). (c.page, c.least)) (λ p. record { page = p.0; least = p.1 }) (λ _. refl)

abbrev StateParts : Type 0
StateParts = ℕ × (List Numbered × (ℕ × (List ℕ × (List Child × (List EntryAt × (List ℕ × (ℕ × PrefixCounts)))))))

abbrev pub state_code : Coded HeapState
state_code =
    code_by StateParts
    (coded× coded_ℕ (coded× (coded_list (coded× coded_ℕ (coded_list coded_ℕ))) (coded× coded_ℕ (coded× (coded_list coded_ℕ) (coded× (coded_list child_code) (coded× (coded_list entry_code) (coded× (coded_list coded_ℕ) (coded× coded_ℕ prefix_counts_code))))))))
    (λ (h : HeapState). (h.homes, (h.cache, (h.top, (h.inner, (h.leaves, (h.places, (h.free, (h.weight, h.counts)))))))))
    (λ p. record { homes = p.0; cache = p.1.0; top = p.1.1.0; inner = p.1.1.1.0; leaves = p.1.1.1.1.0; places = p.1.1.1.1.1.0; free = p.1.1.1.1.1.1.0; weight = p.1.1.1.1.1.1.1.0; counts = p.1.1.1.1.1.1.1.1 })
    (λ _. refl)

-- ---- computed example: two leaves below a page
module _ (heap : HeapState) (e : EntryAt) where
  three_places : directory_places (record heap { inner = 5 ∷ []; leaves = record { page = 3; least = e } ∷ record { page = 4; least = e } ∷ [] }) ≡ 2 ∷ 0 ∷ 1 ∷ []
  three_places = refl
