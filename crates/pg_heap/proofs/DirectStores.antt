-- A store without a directory, with one made for it.
use Rattle.std.specs.Prelude.{map}
use Rattle.std.proofs.Common.{◌≡◌, inl, inr, ⊎_elim, ℕ, zero, suc, All, get_or, ◌+◌, ◌-◌, ◌^◌, max, ◌≤◌, ◌<◌, List, [], ◌∷◌, length, drop, ◌++◌, refl, sym, ap, subst, ◌∙◌, arith}
use Rattle.ct_site.specs.Disks.{DiskView, Leaves, leaves_more, leaves_none}
use Rattle.ct_site.specs.Lengths.{Lengthens}
use Rattle.ct_site.specs.laws.Lengths.{grows_more}
use Rattle.pg_journal.specs.Pages.{Numbered, AreBetween, changed}
use Rattle.pg_journal.specs.Recovered.{IsRecovered}
use Rattle.pg_journal.specs.Standing.{DiskStands, IsEither, MayCommit, commit_end, homes_with}
use Rattle.pg_journal.specs.laws.PageRuns.{length-root, root_homes}
use Rattle.pg_map.specs.Holding.{IsLayout, times}
use Rattle.pg_map.specs.Kinds.{Each}
use Rattle.pg_directory.specs.declared.entries.Child.{Child}
use Rattle.pg_directory.specs.declared.entries.EntryAt.{EntryAt}
use Rattle.pg_directory.specs.declared.making.NewDirectory.{NewDirectory}
use Rattle.pg_directory.specs.Building.{above_of}
use Rattle.pg_directory.specs.Holding.{HoldsMap}
use Rattle.pg_directory.specs.Leaves.{leaf_at, leaf_child}
use Rattle.pg_directory.specs.Levels.{pages_of, HasLevels}
use Rattle.pg_directory.specs.Looking.{store_pages}
use Rattle.pg_directory.specs.Making.{IsMadeOn, IsNewDirectory, new_pages}
use Rattle.pg_directory.specs.Numbering.{AreRising, homes_taken, numbers_from}
use Rattle.pg_directory.specs.laws.Numbering.{taken_rise}
use Rattle.pg_directory.specs.laws.Making.{made_often, numbers_written}
use Rattle.pg_directory.specs.Trees.{StorePage, kind_of, IsPage}
use Rattle.pg_directory.specs.Written.{with_writes, with_free, images_of}
use Rattle.pg_directory.specs.laws.Batching.{made_between, made_may}
use Rattle.pg_directory.specs.laws.Directing.{IsPlain, same_kinds, may_write, writes_new, still_layout, still_good, the_levels}
use Rattle.pg_directory.specs.laws.Levels.{directory_of_levels}
use Rattle.pg_directory.specs.laws.OpenStore.{directory_low}
use Rattle.pg_directory.specs.laws.Written.{length-writes, length-free, store_written}
use Rattle.pg_plan.specs.FreePlaces.{ListsFree}
use Rattle.pg_heap.proofs.DirectFrees.{left_listed}
use Rattle.pg_heap.proofs.DirectCommits.{count_batch}
use Rattle.pg_heap.proofs.Frees.{levels_low}
use Rattle.pg_heap.specs.Directing.{new_writes, directory_batch, homes_directed, direct_end, IsPlainStore, HoldsDirectory, LeavesMap}

module _ (old : DiskView) (homes : ℕ) (places : List EntryAt) (free : List ℕ) (d : NewDirectory) (n : IsNewDirectory homes free places d) (rise : AreRising 0 (homes - 3) free) (fits : d.top.page < 2 ^ 32) (s : IsPlainStore old homes places free) where
  plain : IsPlain s.pages places free
  plain = record {
    good = s.holds.are;
    no = s.none.no;
    places_are = s.places_are;
    rise = let e : homes - 3 ≡ length s.pages = omega (arith, s.holds.count) in subst (λ (k : ℕ). AreRising 0 k free) e rise;
    free_are = s.free_are;
  }

  on : IsMadeOn (3 + length s.pages) free places (map leaf_at d.leaves.items) (map above_of d.upper.items) d.inner.items d.top (new_pages d)
  on = subst (λ (h : ℕ). IsMadeOn h free places (map leaf_at d.leaves.items) (map above_of d.upper.items) d.inner.items d.top (new_pages d)) s.holds.count n.on

  abbrev pub pages_now : List StorePage
  pages_now = with_writes (new_writes d) 3 (with_free (new_pages d - length free) s.pages)

  long : 3 + length (with_free (new_pages d - length free) s.pages) ≡ homes_directed homes free d
  long = omega (arith, length-free (new_pages d - length free) s.pages, s.holds.count)

  is_changed : changed (directory_batch (homes_directed homes free d) d) (store_pages 0 s.pages) ≡ store_pages d.top.page pages_now
  is_changed =
      ap (λ (h : ℕ). changed (directory_batch h d) (store_pages 0 s.pages)) (sym long)
      ∙ store_written 0 d.top.page (new_pages d - length free) s.pages (new_writes d)
      (may_write s.pages places free (map leaf_at d.leaves.items) (map above_of d.upper.items) d.inner.items d.top (new_pages d) plain on)
      (writes_new s.pages places free (map leaf_at d.leaves.items) (map above_of d.upper.items) d.inner.items d.top (new_pages d) plain on)
      (omega (arith, long, n.on.most))

  good_now : Each IsPage pages_now
  good_now = still_good s.pages places free (map leaf_at d.leaves.items) (map above_of d.upper.items) d.inner.items d.top (new_pages d) plain on

  layout_now : IsLayout (map kind_of pages_now) s.held
  layout_now = still_layout s.pages places free (map leaf_at d.leaves.items) (map above_of d.upper.items) d.inner.items d.top (new_pages d) plain on s.held s.layout

  levels_now : HasLevels pages_now d.top.page d.inner.items (map leaf_child (map leaf_at d.leaves.items)) places
  levels_now = the_levels s.pages places free (map leaf_at d.leaves.items) (map above_of d.upper.items) d.inner.items d.top (new_pages d) plain on

  long_now : 3 + length pages_now ≡ homes_taken free (3 + length s.pages) (new_pages d)
  long_now = omega (arith, length-writes (new_writes d) 3 (with_free (new_pages d - length free) s.pages), length-free (new_pages d - length free) s.pages)

  taken_now : AreRising 3 (homes_taken free (3 + length s.pages) (new_pages d)) (numbers_from free (3 + length s.pages) (new_pages d))
  taken_now =
      let e : length s.pages ≡ (3 + length s.pages) - 3 = omega arith in
      taken_rise free (3 + length s.pages) (subst (λ (k : ℕ). AreRising 0 k free) e plain.rise) (omega arith) (new_pages d)

  often_now : (i : ℕ) → times i (d.inner.items ++ pages_of (map leaf_child (map leaf_at d.leaves.items))) ≡ times i (numbers_from free (3 + length s.pages) (new_pages d))
  often_now i =
      made_often places (map leaf_at d.leaves.items) (map above_of d.upper.items) d.inner.items d.top on.made i
      ∙ ap (times i) (numbers_written (map leaf_at d.leaves.items) (map above_of d.upper.items) ∙ on.numbers)

  map_before : HoldsMap (store_pages 0 s.pages) s.held
  map_before = record { pages = s.pages; top = 0; are = s.holds.are; small = omega arith; is = refl; layout = s.layout; directory = inl s.none }

  map_now : HoldsMap (store_pages d.top.page pages_now) s.held
  map_now =
      let is = directory_of_levels pages_now d.top.page d.inner.items (map leaf_child (map leaf_at d.leaves.items)) places levels_now in
      let low = directory_low pages_now d.top.page places is in
      record { pages = pages_now; top = d.top.page; are = good_now; small = fits; is = refl; layout = layout_now; directory = inr (record { some = omega (arith, low); entries = places; is = is }) }

  pub direct_moments : (new : DiskView) → ((pages : List (List ℕ)) → DiskStands old homes pages → Leaves old new (IsEither pages (directory_batch (homes_directed homes free d) d))) → LeavesMap old new s.held
  direct_moments new leaves = leaves_more old new _ _ (leaves (store_pages 0 s.pages) s.holds.stands) (λ image left. ⊎_elim
      (λ before. (store_pages 0 s.pages, before, map_before))
      (λ after. (store_pages d.top.page pages_now, subst (λ (pages : List (List ℕ)). IsRecovered image pages) is_changed after, map_now))
      left)

  pub direct_stands : (new : DiskView) (now : ℕ) → now ≡ homes_directed homes free d → DiskStands new now (changed (directory_batch (homes_directed homes free d) d) (store_pages 0 s.pages)) → HoldsDirectory new now d places free s.pages s.held
  direct_stands new now is st = record {
    pages = pages_now;
    holds = record {
      stands = subst (λ (pages : List (List ℕ)). DiskStands new now pages) is_changed st;
      are = good_now;
      count = is ∙ sym long ∙ ap (λ (k : ℕ). 3 + k) (sym (length-writes (new_writes d) 3 (with_free (new_pages d - length free) s.pages)));
    };
    layout = layout_now;
    levels = subst (λ (cs : List Child). HasLevels pages_now d.top.page d.inner.items cs places) (sym n.children) levels_now;
    listed = λ lists. subst (λ (cs : List Child). ListsFree (map kind_of pages_now) (drop (new_pages d) free ++ map (λ (n : ℕ). n - 3) (d.inner.items ++ pages_of cs))) (sym n.children)
        (left_listed s.pages pages_now free (d.inner.items ++ pages_of (map leaf_child (map leaf_at d.leaves.items))) (new_pages d) plain.rise lists long_now
        (same_kinds s.pages places free (map leaf_at d.leaves.items) (map above_of d.upper.items) d.inner.items d.top (new_pages d) plain on).same taken_now
        (levels_low pages_now d.top.page d.inner.items (map leaf_child (map leaf_at d.leaves.items)) places levels_now) often_now);
  }

-- the file was lengthened: each moment recovers to the map
pub fill_keeps : (old new : DiskView) (homes : ℕ) (places : List EntryAt) (free : List ℕ) (s : IsPlainStore old homes places free)
    → ((pages : List (List ℕ)) → DiskStands old homes pages → Leaves old new (λ image. IsRecovered image pages)) → LeavesMap old new s.held
fill_keeps old new homes places free s leaves = leaves_more old new _ _ (leaves (store_pages 0 s.pages) s.holds.stands) (λ image r. (
  store_pages 0 s.pages,
  r,
  record {
    pages = s.pages;
    top = 0;
    are = s.holds.are;
    small = omega arith;
    is = refl;
    layout = s.layout;
    directory = inl s.none;
  },
))

-- nothing was written
pub none_keeps : (disk : DiskView) (homes : ℕ) (places : List EntryAt) (free : List ℕ) (s : IsPlainStore disk homes places free) → LeavesMap disk disk s.held
none_keeps disk homes places free s = leaves_none disk _ (λ image left. (
  store_pages 0 s.pages,
  recovers image left,
  record {
    pages = s.pages;
    top = 0;
    are = s.holds.are;
    small = omega arith;
    is = refl;
    layout = s.layout;
    directory = inl s.none;
  },
))
  where
    recovers : (image : List ℕ) → disk.may_leave image → IsRecovered image (store_pages 0 s.pages)
    recovers image left =
        let st = s.holds.stands in
        subst (λ (x : List ℕ). IsRecovered x (store_pages 0 s.pages)) (sym (st.settled.only image left)) (inr (st.shut.store, inl st.shut.closed))

pub direct_within : (old new : DiskView) (homes : ℕ) (places : List EntryAt) (free : List ℕ) (d : NewDirectory) → IsNewDirectory homes free places d → Lengthens (commit_end homes (directory_batch (homes_directed homes free d) d)) old new
    → Lengthens (direct_end homes (length places)) old new
direct_within old new homes places free d n lengthens =
    let count = count_batch (homes_directed homes free d) d in
    let said = root_homes (homes_directed homes free d) d.top.page (omega (arith, n.on.most)) in
    grows_more _ _ _ _ (omega (arith, count, said, n.few)) lengthens

-- ---- what is required

between_wider : (low end more : ℕ) (ws : List Numbered) → end ≤ more → AreBetween low end ws → AreBetween low more ws
between_wider low end more [] le between = tt
between_wider low end more (w ∷ ws) le between = (between.0, omega (arith, between.1, le), between.2, between_wider (suc w.0) end more ws le between.3)

module _ (homes : ℕ) (free : List ℕ) (places : List EntryAt) (d : NewDirectory) (n : IsNewDirectory homes free places d) (least : 3 ≤ homes) (rise : AreRising 0 (homes - 3) free) where
  pub may_direct : d.top.page < 2 ^ 32 → MayCommit homes (directory_batch (homes_directed homes free d) d)
  may_direct fits = made_may homes free places (map leaf_at d.leaves.items) (map above_of d.upper.items) d.inner.items d.top (new_pages d) n.on least rise fits

  pub between_direct : AreBetween 2 (2 ^ 32) (directory_batch (homes_directed homes free d) d)
  between_direct = (
    omega arith,
    omega arith,
    length-root (homes_directed homes free d) d.top.page,
    between_wider 3 (homes_directed homes free d) (2 ^ 32) (images_of (new_writes d)) (omega (arith, n.on.most))
        (made_between homes free places (map leaf_at d.leaves.items) (map above_of d.upper.items) d.inner.items d.top (new_pages d) n.on least rise),
  )

pub free_small : (end : ℕ) (free : List ℕ) → end ≤ 2 ^ 31 → AreRising 0 end free → All (λ (at : ℕ). at < 2 ^ 31) free
free_small end free le rise = λ k x less. from 0 free k x le rise less
  where
    from : (low : ℕ) (ns : List ℕ) (k x : ℕ) → end ≤ 2 ^ 31 → AreRising low end ns → k < length ns → get_or ns k x < 2 ^ 31
    from low [] k x le rise less = absurd (omega (arith, less))
    from low (m ∷ ns) zero x le rise less = omega (arith, rise.1, le)
    from low (m ∷ ns) (suc k) x le rise less = from (suc m) ns k x le rise.2 (omega (arith, less))

pub free_few : (low end : ℕ) (free : List ℕ) → AreRising low end free → length free + low ≤ max low end
free_few low end [] rise = omega arith
free_few low end (m ∷ ns) rise = let r = free_few (suc m) end ns rise.2 in omega (arith, r, rise.0, rise.1)

-- the homes that a root tells of which is the first of a batch
pub homes_told : (homes after : ℕ) (d : NewDirectory) → after < 2 ^ 32 → homes_with homes (directory_batch after d) ≡ after
homes_told homes after d small = root_homes after d.top.page small
