-- A batch that is applied to a heap with a directory: each way out.
use Rattle.std.specs.Prelude.{Result, Err, map}
use Rattle.std.specs.Result.{OnOk}
use Rattle.std.proofs.Common.{◌≡◌, ℕ, ◌^◌, ◌-◌, ◌<◌, List, Some, inl, refl, sym, ap, subst, ◌∙◌, arith}
use Rattle.ct_site.specs.Disks.{DiskView, IsSame, Leaves, leaves_same}
use Rattle.ct_keep.specs.Content.{Content, Change, after, weight}
use Rattle.ct_keep.specs.KeeperViews.{AnswersCommit, PassesLimit, fault_of}
use Rattle.ct_keep.specs.declared.keepers.KeepFault.{KeepFault}
use Rattle.ct_keep.specs.declared.keepers.KeepFault.TheVariants.{Memory, Full, Disk}
use Rattle.pg_batch.specs.Places.{FindsAll}
use Rattle.pg_cache.specs.Caches.{IsCacheOf}
use Rattle.pg_map.specs.Holding.{IsLayout}
use Rattle.pg_journal.specs.Pages.{Numbered}
use Rattle.pg_directory.specs.Fetching.{ReadsDisk}
use Rattle.pg_directory.specs.Looking.{DiskHolds}
use Rattle.pg_directory.specs.Trees.{StorePage, kind_of}
use Rattle.pg_heap.specs.Applying.{IsUnwritten}
use Rattle.pg_heap.specs.Applying.{IsEitherMap, Applies}
use Rattle.pg_heap.specs.Directs.{IsReadyUnlessDisk}
use Rattle.pg_heap.specs.Heaps.{HeapState, HeapStands, IsReady, IsDirected}
use Rattle.pg_heap.specs.laws.Batches.{finds_all}
use Rattle.pg_heap.proofs.DirectStates.{map_stays}
use Rattle.pg_heap.proofs.States.{ready_then}

-- ---- where pages were only read

ready_read : (T : Type 0) (fault : KeepFault) (new : DiskView) (heap : HeapState) → IsReady new heap → IsReadyUnlessDisk {T = T} (Err fault) new heap
ready_read T Memory new heap ready = ready
ready_read T Full new heap ready = ready
ready_read T Disk new heap ready = tt

unwritten_read : (T : Type 0) (fault : KeepFault) (old new : DiskView) → IsSame old new → IsUnwritten {T = T} (Err fault) old new
unwritten_read T Memory old new same = same
unwritten_read T Full old new same = same
unwritten_read T Disk old new same = tt

pub reads_moments : (old new : DiskView) (heap : HeapState) (next : Content) (s : HeapStands old heap) → heap.top < 2 ^ 32 → IsSame old new → new.beside ≡ old.beside → Leaves old new (IsEitherMap s.held next)
reads_moments old new heap next s fits same beside = leaves_same old new _ same beside (λ image left. inl ((map_stays old heap s fits).now image left))

-- after an error nothing has changed
pub applies_read : {T U : Type 0} (batch : List Change) (old new : DiskView) (heap : HeapState) (cache : List Numbered) (fault : KeepFault) → IsReady old heap → heap.top < 2 ^ 32 → IsSame old new → ReadsDisk {T = U} old new (Err fault) → IsCacheOf new heap.homes cache
    → Applies {T = T} batch old new heap (record heap { cache = cache }) (Err fault)
applies_read {T = T} batch old new heap cache fault ready fits same reads is = record {
  moments = λ s. reads_moments old new heap (after batch s.held) s fits same reads.beside;
  stands = λ s. tt;
  ready = ready_read T fault new (record heap { cache = cache }) (ready_then old new heap cache ready same is);
  directed = tt;
  err = record { is = refl; counts = record { each = λ p. refl } };
  unwritten = unwritten_read T fault old new same;
  commits = record { beside = reads.beside; untold = reads.untold; kept = reads.kept; later = reads.later; faults = reads.faults; syncs = let n = same.syncs in omega (arith, n) };
}

-- ---- a batch and its changes by their keys

-- what changes make that make of any content what a batch does
pub applies_as : {T : Type 0} (batch ws : List Change) (old new : DiskView) (heap heap' : HeapState) (result : Result T KeepFault) → ((m : Content) → after ws m ≡ after batch m) → Applies ws old new heap heap' result → Applies batch old new heap heap' result
applies_as {T = T} batch ws old new heap heap' result makes a = record {
  moments = λ s. subst (λ (n : Content). Leaves old new (IsEitherMap s.held n)) (makes s.held) (a.moments s);
  stands = λ s. subst (λ (n : Content). OnOk result ((t : HeapStands new heap') × (t.held ≡ n))) (makes s.held) (a.stands s);
  ready = a.ready;
  directed = a.directed;
  err = a.err;
  unwritten = a.unwritten;
  commits = a.commits;
}

-- ---- what a batch asks for

-- what holds over the heap as it is seen holds over it
pub over_seen : (disk : DiskView) (heap seen : HeapState) → heap ≡ seen → (P : Content → Type 0) → ((s : HeapStands disk seen) → P s.held) → (s : HeapStands disk heap) → P s.held
over_seen disk heap seen view P law = subst (λ (h : HeapState). (s : HeapStands disk h) → P s.held) (sym view) law

-- what holds of what was asked of a store holds over the heap
pub over_asked : (disk : DiskView) (heap seen : HeapState) → heap ≡ seen → IsDirected seen → (top : ℕ) → top ≡ seen.top → (P : List StorePage → Content → Type 0)
    → ((pages : List StorePage) (m : Content) → DiskHolds disk heap.homes top pages → FindsAll pages top → IsLayout (map kind_of pages) m → heap.weight ≡ weight m → P pages m) → (s : HeapStands disk seen) → P s.pages s.held
over_asked disk heap seen view directed top top_is P law s =
    law s.pages s.held
    (subst (λ (n : ℕ). DiskHolds disk n top s.pages) (ap (λ (h : HeapState). h.homes) (sym view)) (subst (λ (n : ℕ). DiskHolds disk seen.homes n s.pages) (sym top_is) s.holds))
    (subst (FindsAll s.pages) (sym top_is) (finds_all disk seen s directed)) s.layout (ap (λ (h : HeapState). h.weight) view ∙ s.weighs)

-- ---- limits

-- no map that weighs what a u64 tells is over the greatest limit
pub never_past : {T : Type 0} (m next : Content) (r : Result T KeepFault) → AnswersCommit (fault_of r) (2 ^ 64 - 1) m next → (r ≡ Err Full → weight next < 2 ^ 64) → r ≡ Err Full → ⊥
never_past m next r answers fits is =
    let a = subst (λ x. AnswersCommit (fault_of x) (2 ^ 64 - 1) m next) is answers in
    let b = fits is in
    omega (arith, a.over, b)

-- what is answered where what a batch asks for was not read
pub answers_read : (fault : KeepFault) (limit : ℕ) (m next : Content) → (fault ≡ Full → PassesLimit limit m next) → AnswersCommit (Some fault) limit m next
answers_read Memory limit m next full = tt
answers_read Full limit m next full = full refl
answers_read Disk limit m next full = tt
