-- A batch that begins over a heap: its pages in memory, and what they show of the store.
use Rattle.std.specs.Prelude.{map}
use Rattle.std.proofs.Common.{◌≡◌, ℕ, zero, suc, ◌+◌, ◌-◌, ◌^◌, ◌<◌, List, [], ◌∷◌, length, Option, refl, sym, ap, subst, ◌∙◌, arith}
use Rattle.ct_site.specs.Disks.{DiskView, IsSame}
use Rattle.ct_keep.specs.Content.{Content, Change}
use Rattle.pg_batch.specs.ByKey.{KeysRise}
use Rattle.pg_batch.specs.Places.{AreKeyPlaces}
use Rattle.pg_batch.specs.laws.Places.{were_there}
use Rattle.pg_map.specs.Kinds.{Kind, Free, Slotted, Long}
use Rattle.pg_directory.specs.declared.directories.Directory.{Directory}
use Rattle.pg_directory.specs.declared.entries.EntryAt.{EntryAt}
use Rattle.pg_directory.specs.Trees.{StorePage}
use Rattle.pg_window.specs.declared.sheets.Sheet.{Sheet}
use Rattle.pg_window.specs.Loading.{is_free, free_of, IsStoreWindow, Loads}
use Rattle.pg_window.specs.Sheets.{sheet_kinds}
use Rattle.pg_window.specs.Windows.{away_of}
use Rattle.pg_window.specs.laws.Loads.{length-loads}
use Rattle.pg_window.specs.laws.Windows.{window_done}
use Rattle.pg_plan.specs.Changes.{StandAt}
use Rattle.pg_plan.specs.FreePlaces.{free_at, one_if_free, ListsFree}
use Rattle.pg_change.specs.BatchWindows.{place_or, AreIn}
use Rattle.pg_change.specs.Rebuilding.{own_numbers}
use Rattle.pg_change.specs.Resting.{IsResting}
use Rattle.pg_change.specs.laws.BatchWindows.{changes_shown, stand_at}
use Rattle.pg_change.specs.laws.OnePlace.{one_place}
use Rattle.pg_change.specs.laws.Resting.{resting_window}
use Rattle.pg_heap.specs.Batching.{first_draft, IsBatchBegun}
use Rattle.pg_heap.specs.Heaps.{HeapState, HeapStands, IsDirected}
use Rattle.pg_heap.specs.laws.Batches.{entries_of, free_before, lists_directory, most_before, store_before}
use Rattle.pg_heap.proofs.DirectStates.{store_map}

-- ---- pages that were loaded

flag_free : (k l : Kind) → is_free k ≡ is_free l → one_if_free k ≡ one_if_free l
flag_free Free Free is = refl
flag_free Free (Slotted ss) is = absurd (cc is)
flag_free Free (Long next bytes) is = absurd (cc is)
flag_free (Slotted ss) Free is = absurd (cc is)
flag_free (Slotted ss) (Slotted ts) is = refl
flag_free (Slotted ss) (Long next bytes) is = refl
flag_free (Long next bytes) Free is = absurd (cc is)
flag_free (Long next bytes) (Slotted ss) is = refl
flag_free (Long next bytes) (Long n bs) is = refl

flags_free : (ks ls : List Kind) (at : ℕ) → free_of ks ≡ free_of ls → free_at ks at ≡ free_at ls at
flags_free [] [] at is = refl
flags_free [] (l ∷ ls) at is = absurd (cc is)
flags_free (k ∷ ks) [] at is = absurd (cc is)
flags_free (k ∷ ks) (l ∷ ls) zero is = flag_free k l (cc is)
flags_free (k ∷ ks) (l ∷ ls) (suc at) is = flags_free ks ls at (cc is)

module _ {before sheets : List Sheet} {homes : ℕ} {free loaded : List ℕ} (r : IsResting before homes free) (l : Loads before sheets [] loaded) where
  -- just the free pages are listed still
  pub listed_loaded : ListsFree (sheet_kinds sheets) free
  listed_loaded = record { each = λ at. r.listed.each at ∙ sym (flags_free (sheet_kinds sheets) (sheet_kinds before) at l.free) }

  pub homes_loaded : homes ≡ 3 + length sheets
  homes_loaded = let count = r.count in let same = length-loads before sheets [] loaded l in omega (arith, count, same)

-- ---- over a store

module _ (old mid : DiskView) (heap : HeapState) (d : Directory) (inner_is : d.inner.items ≡ heap.inner) (leaves_are : d.leaves.items ≡ heap.leaves) (directed : IsDirected heap) (fits : heap.top < 2 ^ 32)
    (before sheets : List Sheet) (r : IsResting before heap.homes heap.free) (ws : List Change) (os : List (Option EntryAt)) (places : List ℕ) (rise : KeysRise ws) (placed : (s : HeapStands old heap) → AreKeyPlaces s.pages ws os) where
  -- before any page was loaded
  first_window : (s : HeapStands old heap) → IsStoreWindow old heap.homes heap.top s.pages s.held before
  first_window s = record {
    holds = s.holds;
    layout = s.layout;
    window = resting_window s.pages before heap.homes heap.free (map (λ (n : ℕ). n - 3) (own_numbers d)) s.holds.count (free_before old heap s d inner_is leaves_are) (lists_directory old heap s d inner_is leaves_are) r;
  }

  module _ (same : IsSame old mid) (none : ℕ) (places_are : places ≡ map (place_or none) os)
      (window : (top : ℕ) (pages : List StorePage) (m : Content) → IsStoreWindow old heap.homes top pages m before → IsStoreWindow mid heap.homes top pages m sheets)
      (there : (top : ℕ) (pages : List StorePage) (m : Content) → IsStoreWindow old heap.homes top pages m before → AreIn pages os (away_of sheets)) where
    -- what holds of a batch that has begun holds over the store
    pub over_begun : (P : Content → Type 0) → ((b : IsBatchBegun mid heap.homes heap.top d ws os places (first_draft sheets) heap.counts) → P b.held) → (s : HeapStands old heap) → P s.held
    over_begun P law s =
        let w = window heap.top s.pages s.held (first_window s) in
        let is_one = one_place s.pages s.held s.layout in
        let part = window_done s.pages s.held (sheet_kinds sheets) (away_of sheets) s.holds.are (most_before old heap s) s.layout w.window in
        law (record {
          pages = s.pages;
          held = s.held;
          entries = entries_of old heap s;
          part = part.0;
          holds = w.holds;
          is_map = store_map old heap s fits;
          store = store_before old heap s d inner_is leaves_are directed;
          begun = record {
            window = w.window;
            holds = part.1.done;
            shown = changes_shown s.pages is_one (away_of sheets) ws os (placed s) (there heap.top s.pages s.held (first_window s));
            stand = subst (λ (l : List ℕ). StandAt (sheet_kinds sheets) ws l) (sym places_are) (stand_at s.pages is_one (sheet_kinds sheets) (away_of sheets) ws os none w.window (placed s));
            now = refl;
            away = refl;
            untouched = refl;
          };
          there = were_there s.pages s.held s.holds.are s.layout ws os (placed s);
          counted = s.counted;
        })

-- The same over the heap as it is seen, where the places were given as another list.
pub over_loaded : (old mid : DiskView) (heap seen : HeapState) → heap ≡ seen → (d : Directory) → d.inner.items ≡ heap.inner → d.leaves.items ≡ heap.leaves → IsDirected seen → heap.top < 2 ^ 32
    → (before sheets : List Sheet) → IsResting before heap.homes heap.free → (ws : List Change) (os given : List (Option EntryAt)) (places : List ℕ) → KeysRise ws → ((s : HeapStands old seen) → AreKeyPlaces s.pages ws os)
    → IsSame old mid → (none : ℕ) → given ≡ os → places ≡ map (place_or none) given
    → ((top : ℕ) (pages : List StorePage) (m : Content) → IsStoreWindow old heap.homes top pages m before → IsStoreWindow mid heap.homes top pages m sheets)
    → ((top : ℕ) (pages : List StorePage) (m : Content) → IsStoreWindow old heap.homes top pages m before → AreIn pages given (away_of sheets))
    → (top : ℕ) → heap.top ≡ top
    → (P : Content → Type 0) → ((b : IsBatchBegun mid heap.homes top d ws os places (first_draft sheets) heap.counts) → P b.held) → (s : HeapStands old heap) → P s.held
over_loaded old mid heap seen view d inner_is leaves_are directed fits before sheets r ws os given places rise placed same none given_are places_are window there top top_is P law =
    over_begun old mid heap d inner_is leaves_are (subst IsDirected (sym view) directed) fits before sheets r ws os places rise
    (subst (λ (h : HeapState). (s : HeapStands old h) → AreKeyPlaces s.pages ws os) (sym view) placed)
    same none (places_are ∙ ap (λ (l : List (Option EntryAt)). map (place_or none) l) given_are) window
    (λ t pages m w. subst (λ (l : List (Option EntryAt)). AreIn pages l (away_of sheets)) given_are (there t pages m w)) P
    (subst (λ (n : ℕ). (b : IsBatchBegun mid heap.homes n d ws os places (first_draft sheets) heap.counts) → P b.held) (sym top_is) law)
