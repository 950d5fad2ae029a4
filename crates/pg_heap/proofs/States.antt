-- A heap with a directory: as it was loaded, and as it stays over look-ups.
use Rattle.std.specs.Prelude.{map, Result, Err}
use Rattle.std.proofs.Common.{◌≡◌, ◌⊎◌, inl, inr, ℕ, List, [], ◌++◌, Some, None, sym, ap, subst, ◌∙◌, arith}
use Rattle.std.specs.FinMap.{get, entries, find, get-entries}
use Rattle.std.specs.List.{Contains}
use Rattle.std.specs.Ordering.{nat_cmp}
use Rattle.std.specs.Cmp.Lexicographic.{slice_cmp}
use Rattle.ct_site.specs.Disks.{DiskView, IsSame, IsSettled}
use Rattle.ct_keep.specs.Content.{entries_above, first_entry}
use Rattle.ct_keep.specs.Counting.{PrefixCounts}
use Rattle.ct_keep.specs.laws.Rising.{Entry}
use Rattle.ct_keep.specs.declared.keepers.KeepFault.{KeepFault}
use Rattle.pg_cache.specs.Caches.{IsCacheOf}
use Rattle.pg_journal.specs.Pages.{Numbered}
use Rattle.pg_journal.specs.declared.faults.LoadFault.{LoadFault}
use Rattle.pg_directory.specs.Fetching.{ReadsDisk}
use Rattle.pg_directory.specs.Holding.{HasTop, RecoversTo}
use Rattle.pg_directory.specs.OpenStore.{ArePlaces, NameAll, IsUndirected, IsDirected as IsStoreDirected}
use Rattle.pg_directory.specs.Trees.{StorePage}
use Rattle.pg_directory.specs.declared.entries.EntryAt.{EntryAt}
use Rattle.pg_directory.specs.declared.stores.OpenStore.{OpenStore}
use Rattle.pg_directory.specs.laws.Counting.{all_named}
use Rattle.pg_directory.specs.laws.Levels.{directory_of_levels}
use Rattle.pg_directory.specs.laws.Listing.{places_list}
use Rattle.pg_directory.specs.laws.OpenStore.{directory_low, levels_name, open_holds}
use Rattle.pg_change.specs.Commits.{ReadsPages}
use Rattle.pg_plan.specs.FreePlaces.{ListsFree}
use Rattle.pg_heap.specs.Heaps.{HeapState, state_of, HasPlaces, HasDirectory, HeapStands, IsReady, IsDirected}
use Rattle.pg_heap.specs.Loading.{IsStoreLoaded, SettledIfTold}
use Rattle.pg_heap.proofs.Frees.{directed_free, undirected_free}
use Rattle.pg_heap.proofs.Loadings.{holds_on, some_before, store_holds}

-- ---- as it was loaded

module _ (image : List ℕ) (disk : DiskView) (homes : ℕ) (cache : List Numbered) (store : OpenStore) (free : List ℕ) (total : ℕ) (counts : PrefixCounts) (l : IsStoreLoaded image disk homes store free total counts) where
  state : HeapState
  state = state_of homes cache store free total counts

  pages : List StorePage
  pages = l.opened.behind

  listed : IsUndirected store l.opened.behind ⊎ IsStoreDirected store l.opened.behind → ListsFree (map Rattle.pg_directory.specs.Trees.kind_of l.opened.behind) (free ++ Rattle.pg_heap.specs.Heaps.directory_places (state_of homes cache store free total counts))
  listed (inl u) =
      subst (λ (f : List ℕ). ListsFree (map Rattle.pg_directory.specs.Trees.kind_of l.opened.behind) (f ++ Rattle.pg_heap.specs.Heaps.directory_places (state_of homes cache store free total counts))) (sym l.unused_is)
      (undirected_free l.opened.behind store.top store.directory.inner.items store.directory.leaves.items u.none u.inner u.leaves)
  listed (inr d) =
      subst (λ (f : List ℕ). ListsFree (map Rattle.pg_directory.specs.Trees.kind_of l.opened.behind) (f ++ Rattle.pg_heap.specs.Heaps.directory_places (state_of homes cache store free total counts))) (sym l.unused_is)
      (directed_free l.opened.behind store.top store.directory.inner.items store.directory.leaves.items d.entries d.levels)

  kept : IsUndirected store l.opened.behind ⊎ IsStoreDirected store l.opened.behind → HasPlaces l.opened.behind (state_of homes cache store free total counts) ⊎ HasDirectory l.opened.behind (state_of homes cache store free total counts)
  kept (inl u) = inl (record { none = u.none; places = u.places; inner = u.inner; leaves = u.leaves })
  kept (inr d) = inr (record { entries = d.entries; levels = d.levels })

  pub loaded_stands : HeapStands disk (state_of homes cache store free total counts)
  loaded_stands = record {
    pages = l.opened.behind;
    held = l.opened.opened.held;
    holds = store_holds disk homes store l.pages l.opened l.stands;
    layout = l.opened.opened.layout;
    directory = kept l.opened.opened.directory;
    free = listed l.opened.opened.directory;
    weighs = l.total_is;
    counted = l.counted;
  }

  pub loaded_map : (s : HeapStands disk (state_of homes cache store free total counts)) × RecoversTo image (Some s.held)
  unfolding loaded_stands
  loaded_map = (loaded_stands, (l.pages, l.recovered, open_holds store l.pages l.opened))

pub ready_of : (old new : DiskView) (heap : HeapState) → SettledIfTold old → (old.image ≡ None → new.image ≡ None) → ((image : List ℕ) → IsSettled old image → HeapStands new heap) → IsCacheOf new heap.homes heap.cache → IsReady new heap
ready_of old new heap settled untold stands cache = record {
  cache = cache;
  stands = λ image told. let b = some_before old.image new.image image untold told in stands b.0 (settled b.0 b.1);
}

-- ---- over a look-up

pub stands_then : (old new : DiskView) (heap : HeapState) (cache : List Numbered) → IsSame old new → HeapStands old heap → HeapStands new (record heap { cache = cache })
stands_then old new heap cache same s = record {
  pages = s.pages;
  held = s.held;
  holds = holds_on old new heap.homes heap.top s.pages same s.holds;
  layout = s.layout;
  directory = of s.directory;
  free = s.free;
  weighs = s.weighs;
  counted = s.counted;
}
  where
    of : HasPlaces s.pages heap ⊎ HasDirectory s.pages heap → HasPlaces s.pages (record heap { cache = cache }) ⊎ HasDirectory s.pages (record heap { cache = cache })
    of (inl p) = inl (record { none = p.none; places = p.places; inner = p.inner; leaves = p.leaves })
    of (inr d) = inr (record { entries = d.entries; levels = d.levels })

pub ready_then : (old new : DiskView) (heap : HeapState) (cache : List Numbered) → IsReady old heap → IsSame old new → IsCacheOf new heap.homes cache → IsReady new (record heap { cache = cache })
ready_then old new heap cache ready same is = record {
  cache = is;
  stands = λ image told. stands_then old new heap cache same (ready.stands image (sym same.image ∙ told));
}

pub reads_pages : {T : Type 0} (old new : DiskView) (r : Result T KeepFault) → IsSame old new → ReadsDisk old new r → ReadsPages old new r
reads_pages old new r same reads = record { same = same; beside = reads.beside; kept = reads.kept; later = reads.later; faults = reads.faults }

-- ---- with no directory

module _ (disk : DiskView) (heap : HeapState) (s : HeapStands disk heap) (directed : IsDirected heap) (none : heap.top ≡ 0) where
  low_top : HasDirectory s.pages heap → ⊥
  low_top d =
      let low = directory_low s.pages heap.top d.entries (directory_of_levels s.pages heap.top heap.inner heap.leaves d.entries d.levels) in
      omega (arith, low, none)

  no_entries : HasPlaces s.pages heap ⊎ HasDirectory s.pages heap → entries s.held ≡ []
  no_entries (inr d) = absurd (low_top d)
  no_entries (inl p) = places_list s.pages s.held s.holds.are s.layout [] tt tt (λ e has. subst (λ (l : List EntryAt). Contains l e) (directed none) (all_named s.pages heap.places p.places.strings p.places.order p.places.all e has))

  pub nothing_held : (key : List ℕ) → get s.held key ≡ None
  nothing_held key = get-entries s.held key ∙ ap (find (slice_cmp nat_cmp) key) (no_entries s.directory)

  pub nothing_above : (key : List ℕ) → first_entry (entries_above key s.held) ≡ None
  nothing_above key = ap (λ (es : List Entry). first_entry (Rattle.std.specs.Prelude.filter (λ (e : Entry). Rattle.std.specs.Ordering.is_lt (slice_cmp nat_cmp key e.0)) es)) (no_entries s.directory)

-- ---- with one

pub has_top : (disk : DiskView) (heap : HeapState) (s : HeapStands disk heap) → (heap.top ≡ 0 → ⊥) → HasTop s.pages heap.top
has_top disk heap s some = of s.directory
  where
    of : HasPlaces s.pages heap ⊎ HasDirectory s.pages heap → HasTop s.pages heap.top
    of (inl p) = absurd (some p.none.none)
    of (inr d) =
        let is = directory_of_levels s.pages heap.top heap.inner heap.leaves d.entries d.levels in
        let low = directory_low s.pages heap.top d.entries is in
        record { some = omega (arith, low); entries = d.entries; is = is }

-- ---- the places of all entries

pub places_of : (disk : DiskView) (heap : HeapState) (s : HeapStands disk heap) → heap.top ≡ 0 → ArePlaces s.pages heap.places
places_of disk heap s none = of s.directory
  where
    of : HasPlaces s.pages heap ⊎ HasDirectory s.pages heap → ArePlaces s.pages heap.places
    of (inl p) = p.places
    of (inr d) =
        let low = directory_low s.pages heap.top d.entries (directory_of_levels s.pages heap.top heap.inner heap.leaves d.entries d.levels) in
        absurd (omega (arith, low, none))

pub leaves_of : (disk : DiskView) (heap : HeapState) (s : HeapStands disk heap) → (heap.top ≡ 0 → ⊥) → NameAll s.pages heap.leaves
leaves_of disk heap s some = of s.directory
  where
    of : HasPlaces s.pages heap ⊎ HasDirectory s.pages heap → NameAll s.pages heap.leaves
    of (inl p) = absurd (some p.none.none)
    of (inr d) = levels_name s.pages heap.top heap.inner heap.leaves d.entries d.levels

-- ---- a fault that is handed on

pub fault_same : {T U : Type 0} (x y : LoadFault) → ◌≡◌ {A = Result T LoadFault} (Err x) (Err y) → ◌≡◌ {A = Result U LoadFault} (Err x) (Err y)
fault_same x y is = let e : x ≡ y = cc is in ap Err e
