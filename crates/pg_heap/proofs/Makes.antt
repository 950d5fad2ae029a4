-- A batch that was made over a heap, or wasn't.
use Rattle.std.specs.Prelude.{Result, Ok, Err}
use Rattle.std.proofs.Common.{◌≡◌, ◌⊎◌, inl, inr, ℕ, ◌^◌, ◌<◌, List, [], refl, sym, ap, subst, ◌∙◌, arith}
use Rattle.ct_base.specs.laws.Moments.{grows_then}
use Rattle.ct_site.specs.Disks.{DiskView, IsSame, Leaves, leaves_then}
use Rattle.ct_site.specs.laws.Calls.{same_then}
use Rattle.ct_keep.specs.Content.{Content, Change, after, weight}
use Rattle.ct_keep.specs.Counting.{PrefixCounts}
use Rattle.ct_keep.specs.KeeperViews.{disk_faults_after, fault_of}
use Rattle.ct_keep.specs.declared.keepers.KeepFault.{KeepFault}
use Rattle.ct_keep.specs.declared.keepers.KeepFault.TheVariants.{Memory, Full, Disk}
use Rattle.pg_batch.specs.Counts.{SameCounts}
use Rattle.pg_batch.specs.laws.Counts.{counts_same}
use Rattle.pg_cache.specs.Caches.{IsCacheOf}
use Rattle.pg_journal.specs.Pages.{Numbered}
use Rattle.pg_directory.specs.declared.directories.Directory.{Directory}
use Rattle.pg_directory.specs.declared.entries.EntryAt.{EntryAt}
use Rattle.pg_directory.specs.Fetching.{ReadsDisk}
use Rattle.pg_directory.specs.Looking.{DiskHolds}
use Rattle.pg_directory.specs.Trees.{StorePage}
use Rattle.pg_heap.specs.Applying.{IsUnwritten}
use Rattle.pg_change.specs.Commits.{CommitsPages}
use Rattle.pg_heap.specs.Applying.{IsEitherMap, IsUnchanged, Applies}
use Rattle.pg_heap.specs.Batching.{IsBatchMade}
use Rattle.pg_heap.specs.Directs.{IsReadyUnlessDisk}
use Rattle.pg_heap.specs.Heaps.{HeapState, HeapStands, IsReady, IsDirected, HasPlaces, HasDirectory}
use Rattle.pg_heap.specs.laws.Batches.{stands_after}
use Rattle.pg_heap.proofs.Applies.{reads_moments}
use Rattle.pg_heap.proofs.Loadings.{some_before}
use Rattle.pg_heap.proofs.States.{stands_then}

-- ---- the heap after a batch

-- the state of a heap with this directory, and no places beside it
abbrev pub state_with : ℕ → List Numbered → ℕ → Directory → List EntryAt → List ℕ → ℕ → PrefixCounts → HeapState
state_with homes cache top directory places free total counts = record {
  homes = homes;
  cache = cache;
  top = top;
  inner = directory.inner.items;
  leaves = directory.leaves.items;
  places = places;
  free = free;
  weight = total;
  counts = counts;
}

pub made_stands : (disk : DiskView) (homes : ℕ) (cache : List Numbered) (top : ℕ) (directory : Directory) (places : List EntryAt) (free : List ℕ) (total : ℕ) (counts : PrefixCounts) (m : Content) → places ≡ [] → total ≡ weight m
    → IsBatchMade disk homes m free counts top directory → (t : HeapStands disk (state_with homes cache top directory places free total counts)) × (t.held ≡ m)
made_stands disk homes cache top directory places free total counts m none weighs b =
    let t = stands_after homes cache b.new free total counts disk b.pages m b.store (subst (λ (n : ℕ). DiskHolds disk homes n b.pages) b.top_is b.holds) b.listed weighs b.counted in
    subst (λ (es : List EntryAt). (t : HeapStands disk (state_with homes cache top directory es free total counts)) × (t.held ≡ m)) (sym none)
    (subst (λ (d : Directory). (t : HeapStands disk (state_with homes cache top d [] free total counts)) × (t.held ≡ m)) (sym b.directory_is)
    (subst (λ (n : ℕ). (t : HeapStands disk (state_with homes cache n b.new.directory [] free total counts)) × (t.held ≡ m)) (sym b.top_is) t))

-- it has a directory, or no entry
pub made_directed : (homes : ℕ) (cache : List Numbered) (top : ℕ) (directory : Directory) (places : List EntryAt) (free : List ℕ) (total : ℕ) (counts : PrefixCounts) → places ≡ [] → IsDirected (state_with homes cache top directory places free total counts)
made_directed homes cache top directory places free total counts none zero_top = none

-- ---- the heap after an error

stands_still : (old new : DiskView) (heap : HeapState) (cache : List Numbered) (counts : PrefixCounts) → IsSame old new → SameCounts heap.counts counts → HeapStands old heap → HeapStands new (record heap { cache = cache; counts = counts })
stands_still old new heap cache counts same alike s =
    let t = stands_then old new heap cache same s in
    record {
      pages = t.pages;
      held = t.held;
      holds = t.holds;
      layout = t.layout;
      directory = of t.directory;
      free = t.free;
      weighs = t.weighs;
      counted = counts_same t.held heap.counts counts alike t.counted;
    }
  where
    of : {pages : List StorePage} → HasPlaces pages (record heap { cache = cache }) ⊎ HasDirectory pages (record heap { cache = cache })
        → HasPlaces pages (record heap { cache = cache; counts = counts }) ⊎ HasDirectory pages (record heap { cache = cache; counts = counts })
    of (inl p) = inl (record { none = p.none; places = p.places; inner = p.inner; leaves = p.leaves })
    of (inr d) = inr (record { entries = d.entries; levels = d.levels })

ready_still : (old new : DiskView) (heap heap' : HeapState) → IsReady old heap → IsSame old new → IsUnchanged heap heap' → IsCacheOf new heap'.homes heap'.cache → IsReady new heap'
ready_still old new heap heap' ready same u is = record {
  cache = is;
  stands = λ image told. subst (HeapStands new) (sym u.is) (stands_still old new heap heap'.cache heap'.counts same u.counts (ready.stands image (sym same.image ∙ told)));
}

-- what is as it was where its parts are
pub unchanged_by : (heap : HeapState) (homes : ℕ) (cache : List Numbered) (free : List ℕ) (counts : PrefixCounts) → homes ≡ heap.homes → free ≡ heap.free → SameCounts heap.counts counts
    → IsUnchanged heap (record heap { homes = homes; cache = cache; free = free; counts = counts })
unchanged_by heap homes cache free counts homes_is free_is alike = record {
  is = ap (λ (n : ℕ). record heap { homes = n; cache = cache; free = free; counts = counts }) homes_is ∙ ap (λ (l : List ℕ). record heap { cache = cache; free = l; counts = counts }) free_is;
  counts = alike;
}

-- ---- what a call that applies a batch makes

module _ {U : Type 0} (x : U) (ws : List Change) (old mid new : DiskView) (heap heap' : HeapState) (ready : IsReady old heap) (fits : heap.top < 2 ^ 32) (same : IsSame old mid) (reads : ReadsDisk {T = U} old mid (Ok x))
    (moves : (s : HeapStands old heap) → Leaves mid new (IsEitherMap s.held (after ws s.held))) where
  moments_both : (s : HeapStands old heap) → Leaves old new (IsEitherMap s.held (after ws s.held))
  moments_both s = leaves_then old mid new _ (reads_moments old mid heap (after ws s.held) s fits same reads.beside) (moves s)

  commits_both : {S T : Type 0} (r : Result S KeepFault) (result : Result T KeepFault) → fault_of r ≡ fault_of result → CommitsPages mid new r → CommitsPages old new result
  commits_both r result alike a = record {
    beside = a.beside ∙ reads.beside;
    untold = λ none. a.untold (reads.untold none);
    kept = grows_then old.time mid.time new.time reads.kept a.kept;
    later = let p = reads.later in let q = a.later in omega (arith, p, q);
    faults = a.faults ∙ ap (disk_faults_after (fault_of r)) reads.faults ∙ ap (λ f. disk_faults_after f old.faults) alike;
    syncs = let p = a.syncs in let q = same.syncs in omega (arith, p, q);
  }

  pub applies_made : {S T : Type 0} (y : S) (z : T) → ((s : HeapStands old heap) → (t : HeapStands new heap') × (t.held ≡ after ws s.held)) → IsCacheOf new heap'.homes heap'.cache → IsDirected heap' → CommitsPages {T = S} mid new (Ok y)
      → Applies {T = T} ws old new heap heap' (Ok z)
  applies_made {S = S} {T = T} y z stands is directed commits = record {
    moments = moments_both;
    stands = stands;
    ready = record {
      cache = is;
      stands = λ image told.
          let b = some_before mid.image new.image image commits.untold told in
          (stands (ready.stands b.0 (sym same.image ∙ b.1))).0;
    };
    directed = directed;
    err = tt;
    unwritten = tt;
    commits = commits_both {S = S} {T = T} (Ok y) (Ok z) refl commits;
  }

  pub applies_failed : {S T : Type 0} (fault : KeepFault) → IsUnchanged heap heap' → (fault ≡ Memory → IsSame mid new × IsCacheOf new heap'.homes heap'.cache) → (fault ≡ Full → ⊥) → CommitsPages {T = S} mid new (Err fault)
      → Applies {T = T} ws old new heap heap' (Err fault)
  applies_failed {S = S} {T = T} fault unchanged memory full commits = record {
    moments = moments_both;
    stands = λ s. tt;
    ready = ready_of fault memory full;
    directed = tt;
    err = unchanged;
    unwritten = unwritten_of fault memory full;
    commits = commits_both {S = S} {T = T} (Err fault) (Err fault) refl commits;
  }
    where
      ready_of : (f : KeepFault) → (f ≡ Memory → IsSame mid new × IsCacheOf new heap'.homes heap'.cache) → (f ≡ Full → ⊥) → IsReadyUnlessDisk {T = T} (Err f) new heap'
      ready_of Memory memory full = let m = memory refl in ready_still old new heap heap' ready (same_then old mid new same m.0) unchanged m.1
      ready_of Full memory full = absurd (full refl)
      ready_of Disk memory full = tt

      unwritten_of : (f : KeepFault) → (f ≡ Memory → IsSame mid new × IsCacheOf new heap'.homes heap'.cache) → (f ≡ Full → ⊥) → IsUnwritten {T = T} (Err f) old new
      unwritten_of Memory memory full = same_then old mid new same (memory refl).0
      unwritten_of Full memory full = absurd (full refl)
      unwritten_of Disk memory full = tt
