-- A batch over the parts of a heap with a directory.
use Rattle.std.specs.Prelude.{map, IfSome}
use Rattle.std.proofs.Common.{◌≡◌, ◌⊎◌, inl, inr, ⊎_elim, ℕ, ◌+◌, ◌-◌, ◌^◌, ◌<◌, List, [], ◌++◌, length, Option, Some, refl, sym, ap, subst, ◌∙◌, arith}
use Rattle.ct_site.specs.Disks.{DiskView, IsSame, Leaves, leaves_more, leaves_same, leaves_then}
use Rattle.ct_keep.specs.Content.{Content, Change, after}
use Rattle.ct_keep.specs.Counting.{PrefixCounts, AreCounts}
use Rattle.ct_keep.specs.SeenChanges.{change_of}
use Rattle.ct_keep.specs.declared.batches.Change.{Change as OwnChange}
use Rattle.pg_batch.specs.ByKey.{KeysRise}
use Rattle.pg_batch.specs.Counts.{WereThere, CountsCame}
use Rattle.pg_journal.specs.Recovered.{IsRecovered}
use Rattle.pg_journal.specs.Standing.{DiskStands}
use Rattle.pg_directory.specs.declared.directories.Directory.{Directory}
use Rattle.pg_directory.specs.declared.entries.EntryAt.{EntryAt}
use Rattle.pg_directory.specs.Holding.{HoldsMap, HasTop}
use Rattle.pg_directory.specs.Looking.{DiskHolds, store_pages}
use Rattle.pg_directory.specs.Trees.{StorePage, HasNoDirectory}
use Rattle.pg_directory.specs.laws.Levels.{directory_of_levels}
use Rattle.pg_directory.specs.laws.OpenStore.{directory_low}
use Rattle.pg_window.specs.declared.sheets.Sheet.{Sheet}
use Rattle.pg_window.specs.Loading.{Loads, page_place, rested}
use Rattle.pg_window.specs.Sheets.{sheet_kinds}
use Rattle.pg_window.specs.Windows.{away_of}
use Rattle.pg_window.specs.laws.Loads.{loads_then, loads_there}
use Rattle.pg_plan.specs.Drafts.{Drafted, shown}
use Rattle.pg_plan.specs.FreePlaces.{ListsFree}
use Rattle.pg_plan.specs.Touched.{AreTouched}
use Rattle.pg_change.specs.Batches.{IsStoreBefore, IsStoreAfter}
use Rattle.pg_change.specs.BatchCommits.{IsEitherStore}
use Rattle.pg_change.specs.BatchWindows.{AreIn}
use Rattle.pg_change.specs.Next.{next_pages}
use Rattle.pg_change.specs.Planning.{IsBegun, IsPlanned}
use Rattle.pg_change.specs.Rebuilding.{HasRebuilt}
use Rattle.pg_change.specs.Resting.{IsResting}
use Rattle.pg_change.specs.declared.planning.PlannedBatch.{PlannedBatch}
use Rattle.pg_change.specs.declared.rebuilding.Rebuilt.{Rebuilt}
use Rattle.pg_change.specs.laws.Resting.{all_rest_again}
use Rattle.pg_heap.specs.Applying.{IsEitherMap}
use Rattle.pg_heap.specs.Batching.{IsBatchBegun, IsBatchMade}
use Rattle.pg_heap.proofs.Loadings.{holds_on}

-- ---- pages are brought into memory

-- what is in memory stays so where more is loaded
pub are_in_still : (pages : List StorePage) (os : List (Option EntryAt)) (old new : List Sheet) (listed now_listed : List ℕ) → Loads old new listed now_listed → AreIn pages os (away_of old) → AreIn pages os (away_of new)
are_in_still pages os old new listed now_listed loads there = record { there = λ i e less is has. loads_there old new listed now_listed (e.page - 3) loads (there.there i e less is has) }

pub loads_both : (old mid new : List Sheet) (first listed now_listed : List ℕ) → first ≡ [] → Loads old mid first listed → Loads mid new listed now_listed → Loads old new [] now_listed
loads_both old mid new first listed now_listed none a b = subst (λ (l : List ℕ). Loads old new l now_listed) none (loads_then old mid new first listed now_listed a b)

-- ---- what a crash leaves meanwhile

module _ {disk : DiskView} {homes top : ℕ} {old : Directory} {ws : List Change} {os : List (Option EntryAt)} {places : List ℕ} {d : Drafted} {counts : PrefixCounts} (b : IsBatchBegun disk homes top old ws os places d counts) where
  recovers_held : (image : List ℕ) → IsRecovered image (store_pages top b.pages) → IsEitherMap b.held (after ws b.held) image
  recovers_held image r = inl (store_pages top b.pages, r, b.is_map)

  now_held : (image : List ℕ) → disk.may_leave image → IsEitherMap b.held (after ws b.held) image
  now_held image left =
      let st = b.holds.stands in
      recovers_held image (subst (λ (x : List ℕ). IsRecovered x (store_pages top b.pages)) (sym (st.settled.only image left)) (inr (st.shut.store, inl st.shut.closed)))

  -- nothing new where pages were only read
  pub reads_leave : (new : DiskView) → IsSame disk new → new.beside ≡ disk.beside → Leaves disk new (IsEitherMap b.held (after ws b.held))
  reads_leave new same beside = leaves_same disk new _ same beside now_held

  -- the same map where the file was lengthened then
  pub fill_leaves : (mid new : DiskView) → IsSame disk mid → mid.beside ≡ disk.beside → ((pages : List (List ℕ)) → DiskStands mid homes pages → Leaves mid new (λ image. IsRecovered image pages)) → Leaves disk new (IsEitherMap b.held (after ws b.held))
  fill_leaves mid new same beside leaves =
      let holds = holds_on disk mid homes top b.pages same b.holds in
      leaves_then disk mid new _ (reads_leave mid same beside) (leaves_more mid new _ _ (leaves (store_pages top b.pages) holds.stands) recovers_held)

  -- one of both maps where pages were committed then that hold the changed one
  pub commit_leaves : (mid new : DiskView) (next : List StorePage) (top_next : ℕ) → IsSame disk mid → mid.beside ≡ disk.beside → HoldsMap (store_pages top_next next) (after ws b.held)
      → Leaves mid new (IsEitherStore top b.pages top_next next) → Leaves disk new (IsEitherMap b.held (after ws b.held))
  commit_leaves mid new next top_next same beside holds leaves =
      leaves_then disk mid new _ (reads_leave mid same beside)
      (leaves_more mid new _ _ leaves (λ image r. ⊎_elim (recovers_held image) (λ n. inr (store_pages top_next next, n, holds)) r))

-- ---- the map that a batch leaves

after_map : (next : List StorePage) (m : Content) (new : Rebuilt) → IsStoreAfter next m new → new.top < 2 ^ 32 → HoldsMap (store_pages new.top next) m
after_map next m new store fits = record { pages = next; top = new.top; are = store.good; small = fits; is = refl; layout = store.layout; directory = of store.directory }
  where
    of : HasRebuilt next new store.entries → HasNoDirectory next new.top ⊎ HasTop next new.top
    of (inl levels) =
        let is = directory_of_levels next new.top new.directory.inner.items new.directory.leaves.items store.entries levels in
        let low = directory_low next new.top store.entries is in
        inr (record { some = omega (arith, low); entries = store.entries; is = is })
    of (inr w) = inl w.none

-- what was planned, where its changes are those that were given
pub is_planned : {disk : DiskView} {homes top : ℕ} {old : Directory} {os : List (Option EntryAt)} {places : List ℕ} {d : Drafted} {counts : PrefixCounts} (changes given : List OwnChange) (now : Drafted) (free : List ℕ) (found : Option PlannedBatch) (planned : PlannedBatch)
    → (b : IsBatchBegun disk homes top old (map change_of changes) os places d counts) → given ≡ changes → KeysRise (map change_of changes)
    → ((pages : List StorePage) (m part : Content) (es : List EntryAt) → DiskHolds disk homes top pages → IsStoreBefore pages m top old es → KeysRise (map change_of given) → IsBegun pages part (map change_of given) places d
    → IfSome found (IsPlanned pages m (map change_of given) now free))
    → found ≡ Some planned → IsPlanned b.pages b.held (map change_of changes) now free planned
is_planned {disk = disk} {homes = homes} {top = top} {old = old} {places = places} {d = d} changes given now free found planned b same rise plans is =
    subst (λ (o : Option PlannedBatch). IfSome o (IsPlanned b.pages b.held (map change_of changes) now free)) is
    (subst (λ (l : List OwnChange). (pages : List StorePage) (m part : Content) (es : List EntryAt) → DiskHolds disk homes top pages → IsStoreBefore pages m top old es → KeysRise (map change_of l) → IsBegun pages part (map change_of l) places d
    → IfSome found (IsPlanned pages m (map change_of l) now free)) same plans b.pages b.held b.part b.entries b.holds b.store rise b.begun)

module _ {pages : List StorePage} {m : Content} {ws : List Change} {d : Drafted} {free : List ℕ} {planned : PlannedBatch} (p : IsPlanned pages m ws d free planned) where
  pub planned_map : planned.top < 2 ^ 32 → HoldsMap (store_pages planned.top (next_pages pages d.now planned.images planned.numbers)) (after ws m)
  planned_map fits =
      let next = next_pages pages d.now planned.images planned.numbers in
      subst (λ (t : ℕ). HoldsMap (store_pages t next) (after ws m)) (sym p.top) (after_map next (after ws m) p.new p.store (let e = p.top in omega (arith, e, fits)))

  pub made_of : (disk : DiskView) (homes : ℕ) (counts : PrefixCounts) → DiskHolds disk homes planned.top (next_pages pages d.now planned.images planned.numbers) → AreCounts (after ws m) counts
      → IsBatchMade disk homes (after ws m) free counts planned.top planned.directory
  made_of disk homes counts holds counted = record {
    pages = next_pages pages d.now planned.images planned.numbers;
    new = p.new;
    top_is = p.top;
    directory_is = p.directory;
    holds = holds;
    store = p.store;
    listed = p.listed;
    counted = counted;
  }

-- the counts after it, where the changes and places that were counted are those of the batch
pub counts_made : {m : Content} {old mid new : PrefixCounts} (changes came_changes gone_changes : List OwnChange) (os came gone : List (Option EntryAt)) → came_changes ≡ changes → came ≡ os → gone_changes ≡ changes → gone ≡ os
    → KeysRise (map change_of changes) → WereThere m (map change_of changes) os → AreCounts m old → CountsCame (map change_of came_changes) came old mid
    → ((n : Content) (before : PrefixCounts) → KeysRise (map change_of gone_changes) → WereThere n (map change_of gone_changes) gone → AreCounts n before → CountsCame (map change_of gone_changes) gone before mid
    → AreCounts (after (map change_of gone_changes) n) new)
    → AreCounts (after (map change_of changes) m) new
counts_made {m = m} {old = old} {mid = mid} {new = new} changes came_changes gone_changes os came gone same_came places_came same_gone places_gone rise there are came_is law =
    let came_now : CountsCame (map change_of changes) os old mid = subst (λ (l : List OwnChange). CountsCame (map change_of l) os old mid) same_came (subst (λ (l : List (Option EntryAt)). CountsCame (map change_of came_changes) l old mid) places_came came_is) in
    subst (λ (l : List OwnChange). AreCounts (after (map change_of l) m) new) same_gone
    (law m old (subst (λ (l : List OwnChange). KeysRise (map change_of l)) (sym same_gone) rise)
    (subst (λ (l : List OwnChange). WereThere m (map change_of l) gone) (sym same_gone) (subst (WereThere m (map change_of changes)) (sym places_gone) there)) are
    (subst (λ (l : List OwnChange). CountsCame (map change_of l) gone old mid) (sym same_gone) (subst (λ (l : List (Option EntryAt)). CountsCame (map change_of changes) l old mid) (sym places_gone) came_now)))

-- ---- over pages that were brought into memory

-- what holds of a draft that has just begun holds of one that is the same
pub begun_as : {disk : DiskView} {homes top : ℕ} {old : Directory} {ws : List Change} {os : List (Option EntryAt)} {counts : PrefixCounts} (P : Content → Type 0) (p q : List ℕ) (d e : Drafted) → p ≡ q → d ≡ e
    → ((b : IsBatchBegun disk homes top old ws os p d counts) → P b.held) → (b : IsBatchBegun disk homes top old ws os q e counts) → P b.held
begun_as {disk = disk} {homes = homes} {top = top} {old = old} {ws = ws} {os = os} {counts = counts} P p q d e places_are draft_is holds =
    subst (λ (x : Drafted). (b : IsBatchBegun disk homes top old ws os q x counts) → P b.held) draft_is
    (subst (λ (l : List ℕ). (b : IsBatchBegun disk homes top old ws os l d counts) → P b.held) places_are holds)

-- the pages that are put to rest after a commit
pub rest_made : (before loaded_sheets sheets now : List Sheet) (homes homes_now : ℕ) (free free_now loaded numbers given_loaded given_numbers : List ℕ) (d : Drafted) → IsResting before homes free → Loads before loaded_sheets [] loaded → d.before ≡ shown loaded_sheets
    → sheet_kinds sheets ≡ d.now → away_of sheets ≡ d.away → AreTouched d numbers → ListsFree d.now free_now → given_loaded ≡ loaded → given_numbers ≡ numbers → now ≡ rested (map page_place given_numbers ++ given_loaded) sheets → homes_now ≡ 3 + length d.now
    → IsResting now homes_now free_now
rest_made before loaded_sheets sheets now homes homes_now free free_now loaded numbers given_loaded given_numbers d r l begun kinds marks touched listed same_loaded same_numbers is homes_are =
    let all = all_rest_again before loaded_sheets homes free loaded d free_now numbers sheets r l begun kinds marks touched listed in
    let places = ap (λ (ns : List ℕ). map page_place ns ++ given_loaded) same_numbers ∙ ap (λ (ls : List ℕ). map page_place numbers ++ ls) same_loaded in
    subst (λ (h : ℕ). IsResting now h free_now) (sym homes_are)
    (subst (λ (s : List Sheet). IsResting s (3 + length d.now) free_now) (sym (is ∙ ap (λ (ps : List ℕ). rested ps sheets) places)) all)
