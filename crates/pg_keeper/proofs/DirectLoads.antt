-- A store that was loaded, and then gets a directory.
use Rattle.std.specs.Prelude.{map}
use Rattle.std.proofs.Common.{◌≡◌, ◌⊎◌, inl, inr, ⊎_elim, ℕ, zero, suc, ◌+◌, ◌*◌, ◌^◌, ◌≤◌, ◌<◌, List, [], ◌∷◌, length, length-append, Some, None, refl, sym, ap, subst, ◌∙◌, arith}
use Rattle.std.proofs.lemmas.List.{length-map}
use Rattle.std.specs.FinMap.{get, get-empty}
use Rattle.ct_site.specs.Disks.{DiskView, IsSame, Leaves, leaves_more, leaves_then}
use Rattle.ct_site.specs.Lengths.{Lengthens}
use Rattle.ct_site.specs.laws.Lengths.{grows_more, grows_same, grows_then}
use Rattle.ct_keep.specs.Content.{Content}
use Rattle.ct_keep.specs.Changes.{HoldsWell}
use Rattle.pg_journal.specs.Pages.{home, top_in}
use Rattle.pg_journal.specs.Recovered.{Alike, IsRecovered, number_pages}
use Rattle.pg_journal.specs.Syncs.{SyncsAtMost}
use Rattle.pg_journal.specs.laws.PageRuns.{root_top}
use Rattle.pg_journal.specs.laws.Recovered.{one_recovered}
use Rattle.pg_page.specs.Pages.{taken}
use Rattle.pg_map.specs.Holding.{Placed}
use Rattle.pg_map.specs.Kinds.{Each, Kind, Free, Slotted, Long, IsKind, StringItem, Short, Far, item_bytes, strings_of}
use Rattle.pg_map.specs.MapReading.{nothing}
use Rattle.pg_map.specs.laws.Holding.{each-left, each-right}
use Rattle.pg_directory.specs.Counting.{places_from}
use Rattle.pg_directory.specs.Holding.{RecoversTo}
use Rattle.pg_directory.specs.Leaves.{leaves_for}
use Rattle.pg_directory.specs.Looking.{store_pages}
use Rattle.pg_directory.specs.Numbering.{homes_taken}
use Rattle.pg_directory.specs.OpenStore.{ArePlaces}
use Rattle.pg_directory.specs.Trees.{HasString, bytes_of_page, key_at, kind_of}
use Rattle.pg_directory.specs.declared.entries.EntryAt.{EntryAt}
use Rattle.pg_directory.specs.laws.Counting.{few, is_place, length-places, rising_differ}
use Rattle.pg_directory.specs.laws.Holding.{kinds_are}
use Rattle.pg_directory.specs.laws.Levels.{directory_of_levels}
use Rattle.pg_directory.specs.laws.Listing.{each_in, has_entry}
use Rattle.pg_directory.specs.laws.OpenStore.{directory_low}
use Rattle.pg_heap.specs.Directing.{direct_end, LeavesMap}
use Rattle.pg_heap.specs.Heaps.{HeapState, HeapStands, HasPlaces, HasDirectory, IsDirected}
use Rattle.pg_heap.specs.laws.Recovering.{one_recovery, stands_pages, top_small}
use Rattle.pg_keeper.specs.Loading.{HasHomes, IsOldOrAlike, IsOldOrOneMap, LengthensLoaded, NamesDirectory, NeedsNoDirectory, OnlyLoads}
use Rattle.pg_keeper.specs.laws.Loading.{no_two_stores}
use Rattle.pg_keeper.proofs.Loads.{reads_leave}

-- ---- moments

pub well_moments : (well : List ℕ → List ℕ → Type 0) (old new : DiskView) (image : List ℕ) → Leaves old new (IsOldOrAlike old image) → Leaves old new (IsOldOrOneMap well old image)
well_moments well old new image leaves = leaves_more old new _ (IsOldOrOneMap well old image) leaves (λ left is. ⊎_elim (λ was. inl was) (λ alike. inr (inl alike)) is)

pub direct_moments : (well : List ℕ → List ℕ → Type 0) (old mid new : DiskView) (image : List ℕ) (m : Content) → Leaves old mid (IsOldOrAlike old image) → RecoversTo image (Some m) → HoldsWell well m → LeavesMap mid new m
    → Leaves old new (IsOldOrOneMap well old image)
direct_moments well old mid new image m loads is entries directs =
    leaves_then old mid new (IsOldOrOneMap well old image) (well_moments well old mid image loads)
    (leaves_more mid new _ (IsOldOrOneMap well old image) directs (λ left r. inr (inr (record { held = m; entries = entries; was = is; is = r }))))

-- ---- strings on pages: each takes at least seven bytes, four of them for its slot

least_item : (i : StringItem) → 3 ≤ length (item_bytes i)
least_item (Short key value) = omega arith
least_item (Far key count first) = omega arith

least_strings : (ps : List Placed) → Each (λ (s : List ℕ). 3 ≤ length s) (map (λ (p : Placed). item_bytes p.item) ps)
least_strings [] = tt
least_strings (p ∷ ps) = (least_item p.item, least_strings ps)

least_taken : (ss : List (List ℕ)) → Each (λ (s : List ℕ). 3 ≤ length s) ss → 3 * length ss ≤ taken ss
least_taken [] each = omega arith
least_taken (s ∷ ss) each = let here = each.0 in let more = least_taken ss each.1 in omega (arith, here, more)

most_strings : (ks : List Kind) → Each IsKind ks → Each (λ (s : List ℕ). 3 ≤ length s) (strings_of ks) → 7 * length (strings_of ks) ≤ 4088 * length ks
most_strings [] are each = omega arith
most_strings (Free ∷ ks) are each = let more = most_strings ks are.1 each in omega (arith, more)
most_strings (Slotted ss ∷ ks) are each =
    let fits = are.0 in
    let here = least_taken ss (each-left _ ss (strings_of ks) each) in
    let more = most_strings ks are.1 (each-right _ ss (strings_of ks) each) in
    let both = length-append ss (strings_of ks) in
    omega (arith, fits, here, more, both)
most_strings (Long next bytes ∷ ks) are each = let more = most_strings ks are.1 each in omega (arith, more)

-- ---- how long the file is with a directory

most_leaves : (n k : ℕ) → 7 * n ≤ 4088 * k → leaves_for n ≤ k
most_leaves n k few_ = omega (arith, few_)

most_end : (homes k leaves : ℕ) → homes ≡ 3 + k → leaves ≤ k → 4096 * (homes + 2 * leaves + number_pages (1 + 2 * leaves) + (1 + 2 * leaves)) ≤ 4096 * (8 * homes)
most_end homes k leaves is most = omega (arith, is, most)

most_taken : (free : List ℕ) (homes k leaves : ℕ) → homes ≡ 3 + k → leaves ≤ k → 2 ^ 31 < homes_taken free homes (2 * leaves) → 2 ^ 31 < 3 * homes
most_taken free homes k leaves is most many = omega (arith, is, most, many)

-- ---- a heap without a directory

module _ (disk : DiskView) (heap : HeapState) (s : HeapStands disk heap) (none : heap.top ≡ 0) where
  places_kept : ArePlaces s.pages heap.places
  places_kept = of s.directory
    where
      of : HasPlaces s.pages heap ⊎ HasDirectory s.pages heap → ArePlaces s.pages heap.places
      of (inl p) = p.places
      of (inr d) =
          let low = directory_low s.pages heap.top d.entries (directory_of_levels s.pages heap.top heap.inner heap.leaves d.entries d.levels) in
          absurd (omega (arith, low, none))

  -- no entry has no place
  no_places : s.held ≡ nothing → heap.places ≡ []
  no_places empty = of heap.places places_kept.strings
    where
      of : (places : List EntryAt) → Each (HasString s.pages) places → places ≡ []
      of [] has = refl
      of (e ∷ places) has =
          let h = has_entry s.pages s.held s.holds.are s.layout e has.0 in
          let got = h.value in
          absurd (let no = sym (get-empty _ (key_at s.pages e)) ∙ ap (λ (m : Content). get m (key_at s.pages e)) (sym empty) ∙ got in cc no)

  -- there are as many places as strings
  places_few : 7 * length heap.places ≤ 4088 * length s.pages
  places_few =
      let p = places_kept in
      let most = few heap.places (places_from 3 s.pages) (rising_differ (key_at s.pages) heap.places p.order) (λ e has. is_place s.pages e (each_in (HasString s.pages) heap.places e p.strings has)) in
      let count = length-places 3 s.pages in
      let layout = s.layout in
      let strings = most_strings (map kind_of s.pages) (kinds_are s.pages s.holds.are) (subst (Each (λ (x : List ℕ). 3 ≤ length x)) (sym layout.strings) (least_strings layout.placed)) in
      let long = length-map s.pages kind_of in
      omega (arith, most, count, strings, long)

  ends_within : (old new : DiskView) → (2 ^ 31 < homes_taken heap.free heap.homes (2 * leaves_for (length heap.places))) ⊎ Lengthens (direct_end heap.homes (length heap.places)) old new
      → (2 ^ 31 < 3 * heap.homes) ⊎ Lengthens (4096 * (8 * heap.homes)) old new
  ends_within old new ends =
      let most = most_leaves (length heap.places) (length s.pages) places_few in
      ⊎_elim
      (λ many. inl (most_taken heap.free heap.homes (length s.pages) (leaves_for (length heap.places)) s.holds.count most many))
      (λ grows. inr (grows_more _ (4096 * (8 * heap.homes)) old new (most_end heap.homes (length s.pages) (leaves_for (length heap.places)) s.holds.count most) grows))
      ends

-- ---- a store that was loaded

module _ (disk : DiskView) (heap : HeapState) (s : HeapStands disk heap) (image : List ℕ) (alike : Alike image s.holds.stands.image) where
  its_pages : IsRecovered image (store_pages heap.top s.pages)
  its_pages = alike.back _ (stands_pages disk heap s s.holds.stands.image s.holds.stands.settled.told)

  its_homes : HasHomes image heap.homes
  its_homes = record { pages = store_pages heap.top s.pages; recovered = its_pages; count = let count = s.holds.count in let long = length-map s.pages bytes_of_page in omega (arith, count, long) }

  its_top : NamesDirectory image → heap.top ≡ 0 → ⊥
  its_top names none =
      let pages = one_recovered image names.pages (store_pages heap.top s.pages) names.recovered its_pages in
      let named = names.named in
      let top : top_in (home names.pages 2) ≡ heap.top = ap (λ (ps : List (List ℕ)). top_in (home ps 2)) pages ∙ root_top (3 + length s.pages) heap.top (top_small disk heap s) in
      omega (arith, named, top, none)

  -- no directory is made for it
  is_directed : (well : List ℕ → List ℕ → Type 0) → RecoversTo image (Some s.held) → HoldsWell well s.held → NeedsNoDirectory well image → IsDirected heap
  is_directed well is entries needs none = ⊎_elim
      (λ names. absurd (its_top names none))
      (λ other. ⊎_elim
      (λ empty. no_places disk heap s none (let same : Some s.held ≡ Some nothing = one_recovery image (Some s.held) (Some nothing) is empty in cc))
      (λ foreign. absurd (no_two_stores well image s.held is entries foreign)) other)
      needs

  lengthens_loaded : (old new : DiskView) → (disk.image ≡ None → new.image ≡ None) → Lengthens 12288 old disk → (IsDirected heap → new.image ≡ disk.image)
      → (2 ^ 31 < homes_taken heap.free heap.homes (2 * leaves_for (length heap.places))) ⊎ Lengthens (direct_end heap.homes (length heap.places)) disk new → LengthensLoaded image old new
  lengthens_loaded old new untold loads same directs = of heap.top refl
    where
      of : (top : ℕ) → heap.top ≡ top → LengthensLoaded image old new
      of (suc n) is = inl (grows_then 12288 old disk new untold loads (grows_same 12288 disk new (same (λ none. let wrong : ⊥ = omega (arith, is, none) in absurd wrong))))
      of zero is = inr (
        heap.homes,
        its_homes,
        ⊎_elim
            (λ many. inl many)
            (λ grows. let count = s.holds.count in inr (grows_then _ old disk new untold (grows_more 12288 (4096 * (8 * heap.homes)) old disk (omega (arith, count)) loads) grows))
            (ends_within disk heap s is disk new directs),
      )

-- ---- what each way out has of it

pub no_directory : (image : List ℕ) (old mid new : DiskView) → Leaves old mid (IsOldOrAlike old image) → SyncsAtMost 4 old mid → Lengthens 12288 old mid → IsSame mid new → new.beside ≡ mid.beside → OnlyLoads image old new
no_directory image old mid new leaves few_ grows same beside = record {
  syncs = let syncs = same.syncs in omega (arith, few_, syncs);
  moments = reads_leave old mid new (IsOldOrAlike old image) leaves same beside;
  length = grows_then 12288 old mid new (λ none. same.image ∙ none) grows (grows_same 12288 mid new same.image);
}

module _ (well : List ℕ → List ℕ → Type 0) (mid new : DiskView) (heap : HeapState) (image : List ℕ) (loaded : (s : HeapStands mid heap) × RecoversTo image (Some s.held)) (alike : (now : List ℕ) → mid.image ≡ Some now → Alike image now) where
  -- a store that needs no directory was only read
  pub only_read : (E : Type 0) → ((s : HeapStands mid heap) → HoldsWell well s.held) → (IsDirected heap → IsSame mid new × E) → NeedsNoDirectory well image → IsSame mid new
  only_read E entries none needs =
      let s = loaded.0 in
      let st = s.holds.stands in
      (none (is_directed mid heap s image (alike st.image st.settled.told) well loaded.1 (entries s) needs)).0

  pub directed_ends : (E : Type 0) (old : DiskView) → (mid.image ≡ None → new.image ≡ None) → Lengthens 12288 old mid → (IsDirected heap → IsSame mid new × E)
      → (2 ^ 31 < homes_taken heap.free heap.homes (2 * leaves_for (length heap.places))) ⊎ Lengthens (direct_end heap.homes (length heap.places)) mid new → LengthensLoaded image old new
  directed_ends E old untold loads none directs =
      let s = loaded.0 in
      let st = s.holds.stands in
      lengthens_loaded mid heap s image (alike st.image st.settled.told) old new untold loads (λ directed. (none directed).0.image) directs
