-- A heap whose store gets a directory.
use Rattle.std.specs.Prelude.{map, Err}
use Rattle.std.proofs.Common.{◌≡◌, ◌⊎◌, inl, inr, ℕ, zero, suc, ◌+◌, ◌-◌, ◌^◌, ◌≤◌, ◌<◌, List, [], ◌∷◌, ◌++◌, length, get_or, None, refl, sym, ap, subst, ◌∙◌, append-nil, arith}
use Rattle.ct_site.specs.Disks.{DiskView, IsSame, leaves_none}
use Rattle.ct_keep.specs.declared.keepers.KeepFault.{KeepFault}
use Rattle.ct_keep.specs.declared.keepers.KeepFault.TheVariants.{Memory, Full, Disk}
use Rattle.pg_cache.specs.Caches.{IsCacheOf}
use Rattle.pg_cache.specs.laws.Caches.{same_cache}
use Rattle.pg_journal.specs.Pages.{Numbered}
use Rattle.pg_journal.specs.Recovered.{IsRecovered}
use Rattle.pg_map.specs.Kinds.{Kind, Free, Slotted, Long}
use Rattle.pg_directory.specs.declared.entries.EntryAt.{EntryAt}
use Rattle.pg_directory.specs.declared.making.NewDirectory.{NewDirectory}
use Rattle.pg_directory.specs.Holding.{HoldsMap, HasTop}
use Rattle.pg_directory.specs.Levels.{pages_of}
use Rattle.pg_directory.specs.Looking.{DiskHolds, store_pages}
use Rattle.pg_directory.specs.Trees.{StorePage, Plain, kind_of, HasNoDirectory}
use Rattle.pg_directory.specs.laws.Levels.{directory_of_levels}
use Rattle.pg_directory.specs.laws.OpenStore.{directory_low}
use Rattle.pg_heap.specs.Directing.{IsPlainStore, HoldsDirectory, LeavesMap}
use Rattle.pg_plan.specs.FreePlaces.{times_listed, one_if_free, free_at, ListsFree}
use Rattle.pg_heap.specs.Directs.{directed_state, IsReadyUnlessDisk}
use Rattle.pg_heap.specs.Heaps.{HeapState, directory_places, HasPlaces, HasDirectory, HeapStands, IsReady}
use Rattle.pg_heap.proofs.Freeing.{times-append, one_here}
use Rattle.pg_heap.proofs.Loadings.{some_before}
use Rattle.pg_heap.proofs.States.{ready_then}

-- ---- a place that is listed is that of a free page

listed_at : (xs : List ℕ) (k : ℕ) → k < length xs → 1 ≤ times_listed xs (get_or xs k 0)
listed_at [] k less = absurd (omega (arith, less))
listed_at (x ∷ xs) zero less = omega (arith, one_here x x refl, times-append (x ∷ []) xs x)
listed_at (x ∷ xs) (suc k) less = omega (arith, listed_at xs k (omega (arith, less)), times-append (x ∷ []) xs (get_or xs k 0))

kind_free : (k : Kind) → 1 ≤ one_if_free k → k ≡ Free
kind_free Free one = refl
kind_free (Slotted ss) one = absurd (omega (arith, one))
kind_free (Long next bytes) one = absurd (omega (arith, one))

free_there : (ps : List StorePage) (at : ℕ) → 1 ≤ free_at (map kind_of ps) at → kind_of (get_or ps at (Plain Free)) ≡ Free
free_there [] at one = absurd (omega (arith, one))
free_there (p ∷ ps) zero one = kind_free (kind_of p) one
free_there (p ∷ ps) (suc at) one = free_there ps at one

-- ---- the store as it is

module _ (disk : DiskView) (heap : HeapState) (s : HeapStands disk heap) where
  pub store_map : heap.top < 2 ^ 32 → HoldsMap (store_pages heap.top s.pages) s.held
  store_map fits = record { pages = s.pages; top = heap.top; are = s.holds.are; small = fits; is = refl; layout = s.layout; directory = of s.directory }
    where
      of : HasPlaces s.pages heap ⊎ HasDirectory s.pages heap → HasNoDirectory s.pages heap.top ⊎ HasTop s.pages heap.top
      of (inl p) = inl p.none
      of (inr d) =
          let is = directory_of_levels s.pages heap.top heap.inner heap.leaves d.entries d.levels in
          let low = directory_low s.pages heap.top d.entries is in
          inr (record { some = omega (arith, low); entries = d.entries; is = is })

  pub map_stays : heap.top < 2 ^ 32 → LeavesMap disk disk s.held
  map_stays fits = leaves_none disk _ (λ image left. (store_pages heap.top s.pages, recovers image left, store_map fits))
    where
      recovers : (image : List ℕ) → disk.may_leave image → IsRecovered image (store_pages heap.top s.pages)
      recovers image left =
          let st = s.holds.stands in
          subst (λ (x : List ℕ). IsRecovered x (store_pages heap.top s.pages)) (sym (st.settled.only image left)) (inr (st.shut.store, inl st.shut.closed))

  module _ (none : heap.top ≡ 0) where
    has_places : HasPlaces s.pages heap
    has_places = of s.directory
      where
        of : HasPlaces s.pages heap ⊎ HasDirectory s.pages heap → HasPlaces s.pages heap
        of (inl p) = p
        of (inr d) =
            let low = directory_low s.pages heap.top d.entries (directory_of_levels s.pages heap.top heap.inner heap.leaves d.entries d.levels) in
            absurd (omega (arith, low, none))

    no_more : directory_places heap ≡ []
    no_more =
        let p = has_places in
        ap (λ (ns : List ℕ). map (λ (n : ℕ). n - 3) (ns ++ pages_of heap.leaves)) p.inner
        ∙ ap (λ cs. map (λ (n : ℕ). n - 3) ([] ++ pages_of cs)) p.leaves

    pub lists_free : ListsFree (map kind_of s.pages) heap.free
    lists_free = subst (ListsFree (map kind_of s.pages)) (ap (λ (l : List ℕ). heap.free ++ l) no_more ∙ append-nil heap.free) s.free

    pub plain_of : IsPlainStore disk heap.homes heap.places heap.free
    plain_of = record {
      pages = s.pages;
      held = s.held;
      holds = subst (λ (t : ℕ). DiskHolds disk heap.homes t s.pages) none s.holds;
      none = record { none = refl; no = has_places.none.no };
      layout = s.layout;
      places_are = has_places.places;
      free_are = λ k less.
          let one = listed_at heap.free k less in
          let at = lists_free.each (get_or heap.free k 0) in
          let n : (get_or heap.free k 0 + 3) - 3 ≡ get_or heap.free k 0 = omega arith in
          ap (λ (i : ℕ). kind_of (get_or s.pages i (Plain Free))) n ∙ free_there s.pages (get_or heap.free k 0) (omega (arith, one, at));
    }

    pub stands_directed : (new : DiskView) (homes : ℕ) (cache : List Numbered) (d : NewDirectory) → HoldsDirectory new homes d heap.places heap.free s.pages s.held
        → (t : HeapStands new (record (directed_state d heap) { homes = homes; cache = cache })) × (t.held ≡ s.held)
    stands_directed new homes cache d h = (
      record {
        pages = h.pages;
        held = s.held;
        holds = h.holds;
        layout = h.layout;
        directory = inr (record { entries = heap.places; levels = h.levels });
        free = h.listed lists_free;
        weighs = s.weighs;
        counted = s.counted;
      },
      refl,
    )

-- ---- what may be called again

pub ready_directed : (old new : DiskView) (heap : HeapState) (homes : ℕ) (cache : List Numbered) (d : NewDirectory) → heap.top ≡ 0 → IsReady old heap → (old.image ≡ None → new.image ≡ None) → IsCacheOf new homes cache
    → ((s : IsPlainStore old heap.homes heap.places heap.free) → HoldsDirectory new homes d heap.places heap.free s.pages s.held) → IsReady new (record (directed_state d heap) { homes = homes; cache = cache })
unfolding plain_of
ready_directed old new heap homes cache d none ready untold is holds = record {
  cache = is;
  stands = λ image told.
      let b = some_before old.image new.image image untold told in
      let s = ready.stands b.0 b.1 in
      (stands_directed old heap s none new homes cache d (holds (plain_of old heap s none))).0;
}

-- ---- as the call of a heap's parts gives it

module _ (old new : DiskView) (heap : HeapState) (homes : ℕ) (places : List EntryAt) (free : List ℕ) (is_homes : homes ≡ heap.homes) (is_places : places ≡ heap.places) (is_free : free ≡ heap.free) (none : heap.top ≡ 0) where
  pub direct_moves : ((p : IsPlainStore old homes places free) → LeavesMap old new p.held) → (s : HeapStands old heap) → LeavesMap old new s.held
  unfolding plain_of
  direct_moves moves s =
      subst (λ (f : List ℕ). (p : IsPlainStore old heap.homes heap.places f) → LeavesMap old new p.held) is_free
      (subst (λ (es : List EntryAt). (p : IsPlainStore old heap.homes es free) → LeavesMap old new p.held) is_places
      (subst (λ (h : ℕ). (p : IsPlainStore old h places free) → LeavesMap old new p.held) is_homes moves))
      (plain_of old heap s none)

  pub holds_there : (after : ℕ) (d : NewDirectory) → ((p : IsPlainStore old homes places free) → HoldsDirectory new after d places free p.pages p.held)
      → (p : IsPlainStore old heap.homes heap.places heap.free) → HoldsDirectory new after d heap.places heap.free p.pages p.held
  holds_there after d holds =
      subst (λ (f : List ℕ). (p : IsPlainStore old heap.homes heap.places f) → HoldsDirectory new after d heap.places f p.pages p.held) is_free
      (subst (λ (es : List EntryAt). (p : IsPlainStore old heap.homes es free) → HoldsDirectory new after d es free p.pages p.held) is_places
      (subst (λ (h : ℕ). (p : IsPlainStore old h places free) → HoldsDirectory new after d places free p.pages p.held) is_homes holds))

  pub direct_holds : (after : ℕ) (cache : List Numbered) (d : NewDirectory) → ((p : IsPlainStore old homes places free) → HoldsDirectory new after d places free p.pages p.held)
      → (s : HeapStands old heap) → (t : HeapStands new (record (directed_state d heap) { homes = after; cache = cache })) × (t.held ≡ s.held)
  unfolding plain_of
  direct_holds after cache d holds s = stands_directed old heap s none new after cache d (holds_there after d holds (plain_of old heap s none))

pub ready_err : (T : Type 0) (fault : KeepFault) (old new : DiskView) (heap : HeapState) (homes : ℕ) (cache : List Numbered) → IsReady old heap → homes ≡ heap.homes → (fault ≡ Memory → IsSame old new × (cache ≡ heap.cache)) → (fault ≡ Full → ⊥)
    → IsReadyUnlessDisk {T = T} (Err fault) new (record heap { homes = homes; cache = cache })
ready_err T Memory old new heap homes cache ready is memory full =
    let m = memory refl in
    subst (λ (h : ℕ). IsReady new (record heap { homes = h; cache = cache })) (sym is)
    (ready_then old new heap cache ready m.0 (subst (IsCacheOf new heap.homes) (sym m.1) (same_cache old new heap.homes heap.cache m.0 ready.cache)))
ready_err T Full old new heap homes cache ready is memory full = absurd (full refl)
ready_err T Disk old new heap homes cache ready is memory full = tt
