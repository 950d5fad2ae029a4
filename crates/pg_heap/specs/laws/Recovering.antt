-- What a crash leaves of a store that may have a directory: an image recovers to one map at most, and a disk tells the map of its heap.
use Rattle.std.proofs.Common.{◌≡◌, ◌⊎◌, inl, inr, ⊎_elim, ℕ, zero, suc, ◌+◌, ◌-◌, ◌^◌, ◌<◌, List, [], ◌∷◌, length, get_or, Option, Some, None, refl, sym, ap, subst, ◌∙◌, arith}
use Rattle.ct_base.specs.Moments.{Timeline, Passes}
use Rattle.ct_base.specs.Told.{IsSaid}
use Rattle.ct_site.specs.Disks.{DiskView}
use Rattle.ct_keep.specs.Content.{Content}
use Rattle.pg_journal.specs.Recovered.{Alike, IsRecovered}
use Rattle.pg_journal.specs.laws.Recovered.{one_recovered}
use Rattle.pg_directory.specs.declared.entries.EntryAt.{EntryAt}
use Rattle.pg_directory.specs.Holding.{HoldsMap, HasTop, RecoversTo}
use Rattle.pg_directory.specs.Looking.{store_pages}
use Rattle.pg_directory.specs.Pages.{DirectoryPage, Leaf, Inner}
use Rattle.pg_directory.specs.ToldMap.{told_map}
use Rattle.pg_directory.specs.Trees.{StorePage, Plain, Directory, one_if_directory, IsTree, HasNoDirectory}
use Rattle.pg_directory.specs.laws.Holding.{one_map}
use Rattle.pg_directory.specs.laws.Levels.{directory_of_levels}
use Rattle.pg_directory.specs.laws.OpenStore.{directory_low}
use Rattle.pg_directory.specs.laws.ToldMap.{told_is}
use Rattle.pg_map.specs.Kinds.{Free}
use Rattle.pg_heap.specs.Heaps.{HeapState, HasPlaces, HasDirectory, HeapStands}
use Rattle.pg_heap.specs.Recovering.{recovered}

-- ---- one recovery

pub one_recovery : (image : List ℕ) (o p : Option Content) → RecoversTo image o → RecoversTo image p → o ≡ p
one_recovery image None None a b = refl
one_recovery image None (Some n) a (ps, r, h) = absurd (a n ps r h)
one_recovery image (Some m) None (ps, r, h) b = absurd (b m ps r h)
one_recovery image (Some m) (Some n) (ps, r, h) (qs, s, k) =
    let pages = one_recovered image ps qs r s in
    ap Some (one_map qs m n (subst (λ (l : List (List ℕ)). HoldsMap l m) pages h) k)

-- images that recover to the same pages recover to the same map, or both to nothing
pub alike_recovers : (image other : List ℕ) (o : Option Content) → Alike image other → RecoversTo other o → RecoversTo image o
alike_recovers image other None alike a = λ m ps r h. a m ps (alike.onward ps r) h
alike_recovers image other (Some m) alike (ps, r, h) = (ps, alike.back ps r, h)

-- ---- moments

pub recovered_passes : (old new : Timeline (List ℕ)) (P : List ℕ → Type 0) (Q : Option Content → Type 0) (told : Option (List ℕ)) → Passes old new (λ image said. P image × IsSaid told said)
    → ((image : List ℕ) (stopped : Option Content) → P image → RecoversTo image stopped → Q stopped) → Passes (recovered old) (recovered new) (λ stopped said. Q stopped × IsSaid told said)
recovered_passes old new P Q told passes more = record {
  adds = λ t stopped said (image, now, is). ⊎_elim (λ was. inl (image, was, is)) (λ p. inr (more image stopped p.0 is, p.1)) (passes.adds t image said now);
}

-- ---- a disk that stands for a heap

inside : (pages : List StorePage) (k : ℕ) (d : DirectoryPage) → get_or pages k (Plain Free) ≡ Directory d → k < length pages
inside [] k d is = let one = ap one_if_directory is in absurd (omega (arith, one))
inside (p ∷ pages) zero d is = omega arith
inside (p ∷ pages) (suc k) d is = let less = inside pages k d is in omega (arith, less)

high : (pages : List StorePage) (level top : ℕ) (numbers : List ℕ) (es : List EntryAt) → IsTree pages level top numbers es → top < 3 + length pages
high pages zero top numbers es tree = let low = tree.0 in let less = inside pages (top - 3) (Leaf es) tree.1 in omega (arith, low, less)
high pages (suc level) top numbers es tree = let low = tree.0 in let less = inside pages (top - 3) (Inner (suc level) tree.1) tree.3 in omega (arith, low, less)

module _ (disk : DiskView) (heap : HeapState) (s : HeapStands disk heap) where
  directory_kept : HasPlaces s.pages heap ⊎ HasDirectory s.pages heap → HasNoDirectory s.pages heap.top ⊎ HasTop s.pages heap.top
  directory_kept (inl p) = inl p.none
  directory_kept (inr d) =
      let is = directory_of_levels s.pages heap.top heap.inner heap.leaves d.entries d.levels in
      let low = directory_low s.pages heap.top d.entries is in
      inr (record { some = omega (arith, low); entries = d.entries; is = is })

  within_pages : HasPlaces s.pages heap ⊎ HasDirectory s.pages heap → heap.top < 3 + length s.pages
  within_pages (inl p) = let none = p.none.none in omega (arith, none)
  within_pages (inr d) = let is = directory_of_levels s.pages heap.top heap.inner heap.leaves d.entries d.levels in high s.pages is.level heap.top is.numbers d.entries is.tree

  -- the number of the page at the top takes four bytes
  pub top_small : heap.top < 2 ^ 32
  top_small =
      let less = within_pages s.directory in
      let homes = s.holds.count in
      let same = s.holds.stands.shut.count in
      let most = s.holds.stands.shut.closed.root.most in
      omega (arith, less, homes, same, most)

  pub stands_pages : (image : List ℕ) → disk.image ≡ Some image → IsRecovered image (store_pages heap.top s.pages)
  stands_pages image told =
      let st = s.holds.stands in
      let one : st.image ≡ image = let both : Some st.image ≡ Some image = sym st.settled.told ∙ told in cc in
      subst (λ (x : List ℕ). IsRecovered x (store_pages heap.top s.pages)) one (inr (st.shut.store, inl st.shut.closed))

  -- an image that is told recovers to the map of the heap
  pub stands_recovers : (image : List ℕ) → disk.image ≡ Some image → RecoversTo image (Some s.held)
  stands_recovers image told = (
    store_pages heap.top s.pages,
    stands_pages image told,
    record { pages = s.pages; top = heap.top; are = s.holds.are; small = top_small; is = refl; layout = s.layout; directory = directory_kept s.directory },
  )

  -- and a crash leaves nothing else
  pub left_recovers : (image : List ℕ) → disk.may_leave image → RecoversTo image (Some s.held)
  left_recovers image left = let settled = s.holds.stands.settled in stands_recovers image (subst (λ (x : List ℕ). disk.image ≡ Some x) (sym (settled.only image left)) settled.told)

  pub held_told : (image : List ℕ) → disk.image ≡ Some image → told_map image ≡ s.held
  held_told image told = told_is disk heap.homes heap.top s.pages s.held image s.holds s.layout told

-- Where two disks tell the same, their heaps hold the same.
pub one_held : (disk other : DiskView) (heap heap' : HeapState) (s : HeapStands disk heap) (t : HeapStands other heap') → other.image ≡ disk.image → t.held ≡ s.held
one_held disk other heap heap' s t same =
    let told = t.holds.stands.settled.told in
    sym (held_told other heap' t t.holds.stands.image told) ∙ held_told disk heap s t.holds.stands.image (sym same ∙ told)
