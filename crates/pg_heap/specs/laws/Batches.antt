-- The state of a heap against what a batch speaks of: its store before, and after.
use Rattle.std.specs.Prelude.{map}
use Rattle.std.proofs.Common.{◌≡◌, ◌⊎◌, inl, inr, ℕ, ◌+◌, ◌-◌, ◌^◌, ◌≤◌, List, [], ◌∷◌, ◌++◌, length, refl, sym, ap, subst, ◌∙◌, arith}
use Rattle.std.specs.List.{Contains}
use Rattle.ct_site.specs.Disks.{DiskView}
use Rattle.ct_keep.specs.Content.{Content, weight}
use Rattle.ct_keep.specs.Counting.{PrefixCounts, AreCounts}
use Rattle.pg_journal.specs.Pages.{Numbered}
use Rattle.pg_map.specs.Holding.{times}
use Rattle.pg_directory.specs.declared.directories.Directory.{Directory}
use Rattle.pg_directory.specs.declared.entries.Child.{Child}
use Rattle.pg_directory.specs.declared.entries.EntryAt.{EntryAt}
use Rattle.pg_directory.specs.Counting.{places_from}
use Rattle.pg_directory.specs.Levels.{pages_of, AreLeaves, LeadsTo, HasLevels}
use Rattle.pg_directory.specs.Looking.{DiskHolds}
use Rattle.pg_directory.specs.OpenStore.{ArePlaces}
use Rattle.pg_directory.specs.Trees.{StorePage, kind_of, key_at, HasString}
use Rattle.pg_directory.specs.laws.Counting.{all_named, length-places, rising_differ}
use Rattle.pg_directory.specs.laws.Levels.{directory_of_levels}
use Rattle.pg_directory.specs.laws.Listing.{none_in, first_in}
use Rattle.pg_directory.specs.laws.Places.{place_has}
use Rattle.pg_directory.specs.laws.Visiting.{are_met}
use Rattle.pg_batch.specs.Places.{FindsAll}
use Rattle.pg_batch.specs.laws.Places.{finds_nothing}
use Rattle.pg_change.specs.Batches.{IsStoreBefore, IsStoreAfter}
use Rattle.pg_change.specs.Rebuilding.{own_numbers, HasRebuilt}
use Rattle.pg_change.specs.Resting.{ListsDirectory}
use Rattle.pg_change.specs.declared.rebuilding.Rebuilt.{Rebuilt}
use Rattle.pg_change.specs.laws.Next.{counted_in}
use Rattle.pg_change.specs.laws.Resting.{levels_listed, none_listed}
use Rattle.pg_plan.specs.FreePlaces.{ListsFree}
use Rattle.pg_heap.specs.Heaps.{HeapState, directory_places, HasPlaces, HasDirectory, HeapStands, IsDirected}

-- ---- no string

empty_list : (es : List EntryAt) → ((e : EntryAt) → Contains es e → ⊥) → length es ≡ 0
empty_list [] none = refl
empty_list (e ∷ es) none = absurd (none e (first_in e es))

-- where no place has a string, no places are those of all
pub no_places : (pages : List StorePage) → ((e : EntryAt) → HasString pages e → ⊥) → ArePlaces pages []
no_places pages none = record {
  strings = tt;
  order = tt;
  all = let count = length-places 3 pages in let e = empty_list (places_from 3 pages) (λ e has. none e (place_has [] pages e has)) in omega (arith, count, e);
}

pub none_has : (pages : List StorePage) → ArePlaces pages [] → (e : EntryAt) → HasString pages e → Contains {X = EntryAt} [] e
none_has pages places e has = all_named pages [] places.strings places.order places.all e has

-- ---- before a batch

-- the pages of a directory stand behind the root
levels_low : (pages : List StorePage) (top : ℕ) (inner : List ℕ) (leaves : List Child) (es : List EntryAt) → HasLevels pages top inner leaves es
    → (i : ℕ) → 1 ≤ times i (inner ++ pages_of leaves) → 3 ≤ i
levels_low pages top inner leaves es h i some =
    let met = are_met pages h.level (record { page = top; least = h.least } ∷ []) inner leaves es h.leads h.are (rising_differ (key_at pages) es h.order) in
    (met.levels i (counted_in i (inner ++ pages_of leaves) some)).low

-- the same lists, as another record has them
leads_still : (pages : List StorePage) (level : ℕ) (cs : List Child) (inner ns : List ℕ) (leaves ds : List Child) → ns ≡ inner → ds ≡ leaves
    → LeadsTo pages level cs inner leaves → LeadsTo pages level cs ns ds
leads_still pages level cs inner ns leaves ds same_inner same_leaves leads =
    subst (λ (l : List ℕ). LeadsTo pages level cs l ds) (sym same_inner) (subst (λ (l : List Child). LeadsTo pages level cs inner l) (sym same_leaves) leads)

-- the entries in order: those of the directory, or none
entries_in : (pages : List StorePage) (heap : HeapState) → HasPlaces pages heap ⊎ HasDirectory pages heap → List EntryAt
entries_in pages heap (inl p) = []
entries_in pages heap (inr h) = h.entries

module _ (disk : DiskView) (heap : HeapState) (s : HeapStands disk heap) where
  pub entries_of : List EntryAt
  entries_of = entries_in s.pages heap s.directory

  -- there are as many home pages as the journal knows, and no more than a store may have
  pub count_before : heap.homes ≡ 3 + length s.pages
  count_before = s.holds.count

  pub most_before : 3 + length s.pages ≤ 2 ^ 31
  most_before =
      let a = s.holds.count in
      let b = s.holds.stands.shut.count in
      let c = s.holds.stands.shut.closed.root.most in
      omega (arith, a, b, c)

  module _ (directed : IsDirected heap) where
    nothing_there : HasPlaces s.pages heap → ArePlaces s.pages []
    nothing_there p = subst (ArePlaces s.pages) (directed p.none.none) p.places

    pub finds_all : FindsAll s.pages heap.top
    finds_all = of s.directory
      where
        of : HasPlaces s.pages heap ⊎ HasDirectory s.pages heap → FindsAll s.pages heap.top
        of (inl p) = finds_nothing s.pages heap.top p.none.none (nothing_there p)
        of (inr h) = inr (h.entries, directory_of_levels s.pages heap.top heap.inner heap.leaves h.entries h.levels)

  module _ (d : Directory) (inner_is : d.inner.items ≡ heap.inner) (leaves_are : d.leaves.items ≡ heap.leaves) where
    own_are : own_numbers d ≡ heap.inner ++ pages_of heap.leaves
    own_are = ap (λ (ns : List ℕ). ns ++ pages_of d.leaves.items) inner_is ∙ ap (λ (cs : List Child). heap.inner ++ pages_of cs) leaves_are

    places_are : directory_places heap ≡ map (λ (n : ℕ). n - 3) (own_numbers d)
    places_are = ap (λ (ns : List ℕ). map (λ (n : ℕ). n - 3) ns) (sym own_are)

    pub lists_directory : ListsDirectory s.pages (map (λ (n : ℕ). n - 3) (own_numbers d))
    lists_directory = subst (ListsDirectory s.pages) places_are (of s.directory)
      where
        of : HasPlaces s.pages heap ⊎ HasDirectory s.pages heap → ListsDirectory s.pages (directory_places heap)
        of (inl p) = none_listed s.pages heap.top heap.inner heap.leaves p.none p.inner p.leaves
        of (inr h) = levels_listed s.pages heap.top heap.inner heap.leaves h.entries h.levels

    pub free_before : ListsFree (map kind_of s.pages) (heap.free ++ map (λ (n : ℕ). n - 3) (own_numbers d))
    free_before =
        subst (λ (l : List ℕ). ListsFree (map kind_of s.pages) (heap.free ++ l)) places_are s.free

    -- where there is no directory it has no page
    none_own : HasPlaces s.pages heap → own_numbers d ≡ []
    none_own p = own_are ∙ ap (λ (ns : List ℕ). ns ++ pages_of heap.leaves) p.inner ∙ ap pages_of p.leaves

    no_leaves : HasPlaces s.pages heap → d.leaves.items ≡ []
    no_leaves p = leaves_are ∙ p.leaves

    module _ (directed : IsDirected heap) where
      before_none : HasPlaces s.pages heap → IsStoreBefore s.pages s.held heap.top d []
      before_none p = record {
        good = s.holds.are;
        layout = s.layout;
        lists = record { strings = tt; all = none_has s.pages (nothing_there directed p); order = tt };
        leaves = subst (λ (cs : List Child). AreLeaves s.pages cs []) (sym (no_leaves p)) refl;
        led = λ some. absurd (let e = ap (λ (cs : List Child). length cs) (no_leaves p) in omega (arith, some, e));
        low = λ i some. absurd (let e = ap (times i) (none_own p) in omega (arith, some, e));
        once = λ i low. ap (times i) (none_own p) ∙ sym (p.none.no i low);
      }

      before_some : (h : HasDirectory s.pages heap) → IsStoreBefore s.pages s.held heap.top d h.entries
      before_some h = record {
        good = s.holds.are;
        layout = s.layout;
        lists = record { strings = h.levels.strings; all = h.levels.all; order = h.levels.order };
        leaves = subst (λ (cs : List Child). AreLeaves s.pages cs h.entries) (sym leaves_are) h.levels.are;
        led = λ some. (
          h.levels.level,
          h.levels.least,
          leads_still s.pages h.levels.level (record { page = heap.top; least = h.levels.least } ∷ []) heap.inner d.inner.items heap.leaves d.leaves.items inner_is leaves_are h.levels.leads,
        );
        low = λ i some. levels_low s.pages heap.top heap.inner heap.leaves h.entries h.levels i (let e = ap (times i) own_are in omega (arith, some, e));
        once = λ i low. ap (times i) own_are ∙ h.levels.once i low;
      }

      pub store_before : IsStoreBefore s.pages s.held heap.top d entries_of
      unfolding entries_of entries_in
      store_before = of s.directory
        where
          of : (x : HasPlaces s.pages heap ⊎ HasDirectory s.pages heap) → IsStoreBefore s.pages s.held heap.top d (entries_in s.pages heap x)
          of (inl p) = before_none p
          of (inr h) = before_some h

-- ---- after a batch

module _ (homes : ℕ) (cache : List Numbered) (new : Rebuilt) (free : List ℕ) (total : ℕ) (counts : PrefixCounts) where
  -- the state of a heap whose directory is that of a batch
  abbrev pub rebuilt_state : HeapState
  rebuilt_state = record {
    homes = homes;
    cache = cache;
    top = new.top;
    inner = new.directory.inner.items;
    leaves = new.directory.leaves.items;
    places = [];
    free = free;
    weight = total;
    counts = counts;
  }

  has_directory : (next : List StorePage) (es : List EntryAt) → HasRebuilt next new es → HasPlaces next rebuilt_state ⊎ HasDirectory next rebuilt_state
  has_directory next es (inl levels) = inr (record { entries = es; levels = levels })
  has_directory next es (inr w) = inl (record { none = w.none; places = no_places next nothing; inner = w.inner; leaves = w.leaves })
    where
      nothing : (e : EntryAt) → HasString next e → ⊥
      nothing e has = none_in e (subst (λ (l : List EntryAt). Contains l e) w.es_are (w.all e has))

  pub stands_after : (disk : DiskView) (next : List StorePage) (m : Content) → IsStoreAfter next m new → DiskHolds disk homes new.top next
      → ListsFree (map kind_of next) (free ++ map (λ (n : ℕ). n - 3) (own_numbers new.directory)) → total ≡ weight m → AreCounts m counts
      → (t : HeapStands disk rebuilt_state) × (t.held ≡ m)
  stands_after disk next m store holds listed weighs counted = (
    record {
      pages = next;
      held = m;
      holds = holds;
      layout = store.layout;
      directory = has_directory next store.entries store.directory;
      free = listed;
      weighs = weighs;
      counted = counted;
    },
    refl,
  )

  pub directed_after : IsDirected rebuilt_state
  directed_after top = refl
