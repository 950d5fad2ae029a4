-- What a batch makes of a store: its pages hold the map after the changes, and its directory names the entries of that.
use Rattle.std.specs.Prelude.{Bool, true, false, map}
use Rattle.std.proofs.Common.{◌≡◌, ◌⊎◌, inl, inr, ⊎_elim, ℕ, ◌-◌, ◌≤◌, ◌<◌, List, [], ◌∷◌, ◌++◌, zero, suc, length, get_or, refl, sym, ap, subst, ◌∙◌, arith}
use Rattle.std.specs.List.{Contains}
use Rattle.std.proofs.lemmas.Bool.{cases_lt}
use Rattle.ct_keep.specs.Content.{Content, Change, after}
use Rattle.pg_map.specs.Done.{IsDone}
use Rattle.pg_map.specs.Holding.{times, IsLayout}
use Rattle.pg_map.specs.Kinds.{Each, Kind, Free, IsKind}
use Rattle.pg_map.specs.laws.MapReading.{kind_is}
use Rattle.pg_batch.specs.ByKey.{KeysRise}
use Rattle.pg_directory.specs.declared.directories.Directory.{Directory}
use Rattle.pg_directory.specs.declared.entries.EntryAt.{EntryAt}
use Rattle.pg_directory.specs.Leaves.{leaf_at}
use Rattle.pg_directory.specs.Building.{above_of}
use Rattle.pg_directory.specs.Trees.{StorePage, Plain, IsPage, kind_of, page_at, one_if_directory}
use Rattle.pg_directory.specs.Written.{PageWrite, write_numbers}
use Rattle.pg_directory.specs.laws.Listing.{none_in}
use Rattle.pg_directory.specs.laws.Making.{of_directory}
use Rattle.pg_leaves.specs.Editing.{edits_of, places_edited}
use Rattle.pg_leaves.specs.Relisting.{ListStrings, IsRelisted}
use Rattle.pg_leaves.specs.declared.edits.Edit.{Edit}
use Rattle.pg_leaves.specs.declared.relisting.Relisted.{Relisted}
use Rattle.pg_leaves.specs.laws.Listing.{relisted_lists}
use Rattle.pg_plan.specs.Drafts.{Drafted, SeesNone, StaysAway}
use Rattle.pg_plan.specs.FreePlaces.{ListsFree}
use Rattle.pg_plan.specs.Touched.{AreTouched}
use Rattle.pg_plan.specs.laws.Bare.{none_of_away}
use Rattle.pg_window.specs.Windows.{ShowsPages, IsWindow, IsBare, StayAway, ChangesShown}
use Rattle.pg_change.specs.declared.rebuilding.Rebuilt.{Rebuilt}
use Rattle.pg_change.specs.Batches.{IsStoreBefore, IsStoreAfter}
use Rattle.pg_change.specs.DirectoryImages.{AreSameWrites, AreGood}
use Rattle.pg_change.specs.Made.{IsMade}
use Rattle.pg_change.specs.Next.{HaveKinds, next_pages}
use Rattle.pg_change.specs.Planning.{PlansEntries}
use Rattle.pg_change.specs.Rebuilding.{own_numbers, rebuilt_writes, AreAway, GoesOn, IsRebuilt, RebuildsIn, StandsRebuilt}
use Rattle.pg_change.specs.laws.KeyEdits.{are_edited}
use Rattle.pg_change.specs.laws.Made.{directory_kept, directory_once, directory_stands, free_listed, next_layout, strings_now}
use Rattle.pg_change.specs.laws.Next.{next_good}
use Rattle.pg_change.specs.laws.Rebuilding.{one_at_most, rebuilt_levels, written_in}
use Rattle.pg_change.specs.laws.Resting.{levels_listed, none_listed}

-- ---- pages of the directory are given back and taken

-- the pages in memory are such of a store still
moved_kind : (old new : Drafted) (ns ms taken : List ℕ) → GoesOn old new ns ms taken → (at : ℕ) → IsKind (get_or old.now at Free) → IsKind (get_or new.now at Free)
moved_kind old new ns ms taken goes at was = ⊎_elim
    (λ same_. subst IsKind (sym same_.kind) was)
    (λ more. ⊎_elim (λ gave. subst IsKind (sym gave.kind) tt) (λ took. subst IsKind (sym took.kind) (omega arith)) more)
    (goes.each at)

-- so is each that is written
have_kinds : (now : List Kind) (numbers : List ℕ) → Each IsKind now → HaveKinds now numbers
have_kinds now [] kinds = tt
have_kinds now (n ∷ ns) kinds = (kind_is now (n - 3) kinds, have_kinds now ns kinds)

-- those that weren't in memory have nothing still
moved_bare : (old new : Drafted) (ns ms taken : List ℕ) (away : List Bool) → GoesOn old new ns ms taken → StayAway old.now away → StayAway new.now away
moved_bare old new ns ms taken away goes stay = record {
  bare = λ at gone. ⊎_elim
      (λ same_. subst IsBare (sym same_.kind) (stay.bare at gone))
      (λ more. ⊎_elim (λ gave. subst IsBare (sym gave.kind) tt) (λ took. subst IsBare (sym took.kind) tt) more)
      (goes.each at);
}

-- a page of the directory isn't in memory
own_hidden : (pages : List StorePage) (now : List Kind) (away : List Bool) (at : ℕ) → ShowsPages pages now away → 1 ≤ one_if_directory (get_or pages at (Plain Free)) → get_or away at false ≡ true
own_hidden pages now away at shows own = of (get_or away at false) refl (cases_lt at (length pages))
  where
    plain : (p : StorePage) (k : Kind) → p ≡ Plain k → 1 ≤ one_if_directory p → ⊥
    plain p k is some = let z = ap one_if_directory is in omega (arith, z, some)

    past : (ps : List StorePage) (i : ℕ) → length ps ≤ i → get_or ps i (Plain Free) ≡ Plain Free
    past [] i more = refl
    past (p ∷ ps) zero more = absurd (omega (arith, more))
    past (p ∷ ps) (suc i) more = past ps i (omega (arith, more))

    of : (b : Bool) → get_or away at false ≡ b → (at < length pages) ⊎ (length pages ≤ at) → get_or away at false ≡ true
    of true is there = is
    of false is (inl less) = absurd (plain (get_or pages at (Plain Free)) (get_or now at Free) (shows.shown at less is) own)
    of false is (inr more) = absurd (plain (get_or pages at (Plain Free)) Free (past pages at more) own)

module _ (pages : List StorePage) (m part : Content) (ws : List Change) (top : ℕ) (old : Directory) (es : List EntryAt) (edits : List Edit) (relisted : Relisted) (began planned done : Drafted) (new : Rebuilt) (images : List PageWrite) (numbers : List ℕ)
    (store : IsStoreBefore pages m top old es) (window : IsWindow pages began.before.kinds began.before.away) (was : IsDone began.before.kinds part) (rise : KeysRise ws) (shown : ChangesShown (map kind_of pages) began.before.away ws)
    (began_now : began.now ≡ began.before.kinds) (began_away : began.away ≡ began.before.away) (untouched : began.touched ≡ []) (sees_began : SeesNone began) (sees : SeesNone planned)
    (stays : StaysAway began planned) (plans : PlansEntries pages began planned ws part edits) (same : planned.before ≡ began.before) (relists : IsRelisted pages old.leaves.items es (edits_of edits) relisted) (rebuilt : IsRebuilt top old relisted.leaves.items new)
    (moves : AreAway planned (own_numbers old) → RebuildsIn planned done old new) (same_end : done.before ≡ began.before) (kept : (n : Content) → IsDone planned.now n → IsDone done.now n)
    (writes : AreSameWrites images (rebuilt_writes new)) (good : AreGood images) (touched : AreTouched done numbers) (grew : length began.before.kinds ≤ length planned.now) (grown : length began.before.kinds ≤ length done.now) where
  abbrev next : List StorePage
  next = next_pages pages done.now images numbers

  away : AreAway planned (own_numbers old)
  away = record { each = each; once = once }
    where
      each : (n : ℕ) → 1 ≤ times n (own_numbers old) → (3 ≤ n) × (get_or planned.away (n - 3) false ≡ true)
      each n some =
          let low = store.low n some in
          let own = store.once n low in
          let hidden : get_or began.before.away (n - 3) false ≡ true = own_hidden pages began.before.kinds began.before.away (n - 3) window.shows (omega (arith, own, some)) in
          (low, stays.away (n - 3) (ap (λ (l : List Bool). get_or l (n - 3) false) began_away ∙ hidden))

      once : (n : ℕ) → times n (own_numbers old) ≤ 1
      once n = of (times n (own_numbers old)) refl
        where
          of : (k : ℕ) → times n (own_numbers old) ≡ k → times n (own_numbers old) ≤ 1
          of zero is = omega (arith, is)
          of (suc k) is = let o = store.once n (store.low n (omega (arith, is))) in let one = one_at_most (page_at pages n) in omega (arith, o, one)

  goes : RebuildsIn planned done old new
  goes = moves away

  made : IsMade pages began.before planned done (own_numbers old) (own_numbers new.directory) (rebuilt_writes new) images plans.numbers numbers
  made = record {
    shows = window.shows;
    directory = store.once;
    sees = sees;
    began = same;
    stays = λ at gone. stays.away at (ap (λ (l : List Bool). get_or l at false) began_away ∙ gone);
    here = stays.here (record { here = λ at has. absurd (none_has at (subst (λ (l : List ℕ). Contains l at) untouched has)) });
    early_are = plans.touched;
    away = away;
    goes = goes;
    ends = same_end;
    of_directory = of_directory (map leaf_at new.written.items) (map above_of new.upper.items);
    within = written_in top old relisted.leaves.items new rebuilt;
    same = writes;
    touched = touched;
    grew = let c = window.shows.count in omega (arith, grew, c);
    grown = let c = window.shows.count in omega (arith, grown, c);
  }
    where
      none_has : (at : ℕ) → Contains {X = ℕ} [] at → ⊥
      none_has at has = none_in at has

  done_now : IsDone done.now (after ws part)
  done_now = kept (after ws part) plans.makes.done

  stay : StayAway done.now began.before.away
  stay = moved_bare planned done (own_numbers old) (own_numbers new.directory) (write_numbers (rebuilt_writes new)) began.before.away goes.goes
      (subst (StayAway planned.now) began_away (none_of_away began planned sees_began stays))

  layout_next : IsLayout (map kind_of next) (after ws m)
  layout_next = next_layout pages began.before planned done (own_numbers old) (own_numbers new.directory) (rebuilt_writes new) images plans.numbers numbers made m part ws store.good store.layout window was done_now stay shown

  good_next : Each IsPage next
  good_next = next_good pages done.now images numbers store.good (have_kinds done.now numbers done_now.are) good

  lists_next : ListStrings next (places_edited pages es (edits_of edits))
  lists_next = relisted_lists pages next es (edits_of edits) store.lists plans.are.rise
      (are_edited pages next m (after ws m) ws planned.now plans.numbers es (edits_of edits) store.good store.layout good_next layout_next refl rise
      (strings_now pages began.before planned done (own_numbers old) (own_numbers new.directory) (rebuilt_writes new) images plans.numbers numbers made) store.lists plans.are)

  stands : StandsRebuilt pages next new (places_edited pages es (edits_of edits))
  stands = record {
    stand = directory_stands pages began.before planned done (own_numbers old) (own_numbers new.directory) (rebuilt_writes new) images plans.numbers numbers made;
    kept = directory_kept pages began.before planned done (own_numbers old) (own_numbers new.directory) (rebuilt_writes new) images plans.numbers numbers made;
    once = directory_once pages began.before planned done (own_numbers old) (own_numbers new.directory) (rebuilt_writes new) images plans.numbers numbers made;
    strings = lists_next.strings;
    all = lists_next.all;
    order = lists_next.order;
  }

  -- THE STORE AFTER THE BATCH.
  pub store_after : IsStoreAfter next (after ws m) new
  store_after = record {
    good = good_next;
    layout = layout_next;
    entries = places_edited pages es (edits_of edits);
    directory = rebuilt_levels pages next top old relisted.leaves.items new (places_edited pages es (edits_of edits)) store.led rebuilt relists.named stands;
  }

  -- Each page that is free is listed once, and so is each of the directory.
  pub free_after : (free : List ℕ) → ListsFree done.now free → ListsFree (map kind_of next) (free ++ map (λ (n : ℕ). n - 3) (own_numbers new.directory))
  unfolding store_after
  free_after free listed =
      free_listed pages began.before planned done (own_numbers old) (own_numbers new.directory) (rebuilt_writes new) images plans.numbers numbers made free (map (λ (n : ℕ). n - 3) (own_numbers new.directory)) listed
      (⊎_elim
      (λ levels. levels_listed next new.top new.directory.inner.items new.directory.leaves.items (places_edited pages es (edits_of edits)) levels)
      (λ none. none_listed next new.top new.directory.inner.items new.directory.leaves.items none.none none.inner none.leaves)
      store_after.directory)
