-- A store that is loaded after a sync, and one that has an entry that isn't well shaped.
use Rattle.std.proofs.Common.{◌≡◌, ◌⊎◌, ◌≤◌, ℕ, List, Option, Some, None, Result, Ok, Err, ⊎_elim, inl, inr, sym, ap, subst, ◌∙◌, arith}
use Rattle.ct_base.specs.Moments.{Grows}
use Rattle.ct_base.specs.laws.Moments.{grows_then}
use Rattle.ct_site.specs.declared.outside.Failed.{Failed}
use Rattle.ct_site.specs.Disks.{DiskView, IsSame, IsSettled, IsSync, Leaves, leaves_more, leaves_same, leaves_then}
use Rattle.ct_site.specs.laws.Calls.{settled_same}
use Rattle.ct_keep.specs.declared.keepers.KeepFault.{KeepFault}
use Rattle.ct_keep.specs.Content.{Content}
use Rattle.ct_keep.specs.Changes.{HoldsWell}
use Rattle.ct_keep.specs.KeeperViews.{disk_faults_after, fault_of}
use Rattle.ct_keep.specs.laws.Changes.{holds_none}
use Rattle.pg_journal.specs.declared.faults.LoadFault.{LoadFault}
use Rattle.pg_journal.specs.declared.faults.LoadFault.TheVariants.{Memory, Disk, NotAStore}
use Rattle.pg_journal.specs.Looking.{faults_after_load, Loads, LoadsKnown}
use Rattle.pg_journal.specs.Recovered.{Alike, HasNoOpenGate, IsOnlyRead, IsStore, IsUnborn, first_pages}
use Rattle.pg_journal.specs.laws.Recovered.{alike_itself, born_or_not}
use Rattle.pg_directory.specs.Holding.{HoldsMap, RecoversTo, born_holds}
use Rattle.pg_directory.specs.laws.Holding.{one_map}
use Rattle.pg_change.specs.Commits.{CommitsPages, ReadsPages}
use Rattle.pg_heap.specs.Heaps.{HeapState, HeapStands, IsReady}
use Rattle.pg_heap.specs.laws.Recovering.{one_held}
use Rattle.pg_keeper.specs.Loading.{IsOldOrAlike, StaysAs}
use Rattle.pg_map.specs.MapReading.{nothing}

-- ---- a sync before all

-- a file on which nothing was pending was as it is
pub quiet_sync : {T : Type 0} {result : Result T Failed} (old mid : DiskView) (image : List ℕ) → IsSettled old image → IsSync old mid result → StaysAs image old mid
quiet_sync old mid image settled sync = record {
  settled = record { told = sync.image ∙ settled.told; only = λ left is. settled.only left (sync.crash left is) };
  leaves = leaves_more old mid old.may_leave _ sync.leaves settled.only;
}

-- and what is then only read stays so
pub stays_read : (old mid new : DiskView) (image : List ℕ) → StaysAs image old mid → IsSame mid new → new.beside ≡ mid.beside → StaysAs image old new
stays_read old mid new image stays same beside = record {
  settled = settled_same mid new image same stays.settled;
  leaves = leaves_then old mid new _ stays.leaves (leaves_same mid new _ same beside stays.settled.only);
}

-- after a sync that went well nothing is pending
pub settled_sync : {T : Type 0} {x : T} (old mid : DiskView) (image : List ℕ) → IsSync old mid (Ok x) → old.image ≡ Some image → IsSettled mid image
settled_sync old mid image sync told = record { told = sync.image ∙ told; only = sync.durable image told }

-- and so it is for the load that follows
pub settled_for_load : {T : Type 0} {x : T} (old mid : DiskView) → IsSync old mid (Ok x) → (image : List ℕ) → mid.image ≡ Some image → IsSettled mid image
settled_for_load old mid sync image told = settled_sync old mid image sync (sym sync.image ∙ told)

-- a crash leaves nothing new until the sync has ended
pub sync_moments : {T : Type 0} {result : Result T Failed} (old mid : DiskView) (image : List ℕ) → IsSync old mid result → Leaves old mid (IsOldOrAlike old image)
sync_moments old mid image sync = leaves_more old mid old.may_leave _ sync.leaves (λ left was. inl was)

-- and then what recovers to what it did
pub load_moments : {T : Type 0} {result : Result T Failed} (old mid new : DiskView) (image : List ℕ) → IsSync old mid result → Leaves mid new (Alike image) → Leaves old new (IsOldOrAlike old image)
load_moments old mid new image sync leaves = leaves_then old mid new _ (sync_moments old mid image sync) (leaves_more mid new (Alike image) _ leaves (λ left alike. inr alike))

-- ---- the same image

pub alike_told : (told : Option (List ℕ)) (image now : List ℕ) → told ≡ Some image → told ≡ Some now → Alike image now
alike_told told image now was is = alike_itself image now (let both : Some now ≡ Some image = sym is ∙ was in cc)

-- ---- what is only read after it was loaded

pub reads_leave : (old mid new : DiskView) (P : List ℕ → Type 0) → Leaves old mid P → IsSame mid new → new.beside ≡ mid.beside → Leaves old new P
reads_leave old mid new P leaves same beside = leaves_then old mid new P leaves (leaves_same mid new P same beside leaves.now)

pub loaded_read : (mid new : DiskView) (heap heap' : HeapState) (image : List ℕ) → IsReady new heap' → IsSame mid new → (s : HeapStands mid heap) × RecoversTo image (Some s.held) → (t : HeapStands new heap') × RecoversTo image (Some t.held)
loaded_read mid new heap heap' image ready same loaded =
    let s = loaded.0 in
    let t = ready.stands s.holds.stands.image (same.image ∙ s.holds.stands.settled.told) in
    (t, subst (λ (m : Content). RecoversTo image (Some m)) (sym (one_held mid new heap heap' s t same.image)) loaded.1)

-- ---- faults

-- what was loaded, and then a call of the heap, after which the count of faults is this
pub loads_on : {T U : Type 0} (old mid new : DiskView) (x : T) (result : Result U LoadFault) → Loads old mid (Ok x) → new.beside ≡ mid.beside → (mid.image ≡ None → new.image ≡ None) → Grows mid.time new.time → mid.faults ≤ new.faults
    → new.faults ≡ faults_after_load result mid.faults → Loads old new result
loads_on old mid new x result first beside untold kept later cause = record {
  beside = beside ∙ first.beside;
  untold = λ none. untold (first.untold none);
  kept = grows_then old.time mid.time new.time first.kept kept;
  later = let a = first.later in omega (arith, a, later);
  cause = cause ∙ ap (faults_after_load result) first.cause;
}

pub loads_read : {T U V : Type 0} (old mid new : DiskView) (x : T) (r : Result V KeepFault) (result : Result U LoadFault) → Loads old mid (Ok x) → ReadsPages mid new r → disk_faults_after (fault_of r) mid.faults ≡ faults_after_load result mid.faults → Loads old new result
loads_read old mid new x r result first reads same = loads_on old mid new x result first reads.beside (λ none. reads.same.image ∙ none) reads.kept reads.later (reads.faults ∙ same)

pub loads_commit : {T U V : Type 0} (old mid new : DiskView) (x : T) (r : Result V KeepFault) (result : Result U LoadFault) → Loads old mid (Ok x) → CommitsPages mid new r → disk_faults_after (fault_of r) mid.faults ≡ faults_after_load result mid.faults
    → Loads old new result
loads_commit old mid new x r result first commits same = loads_on old mid new x result first commits.beside commits.untold commits.kept commits.later (commits.faults ∙ same)

-- ---- the load

-- a store, of which no batch is under way
pub read_store : (image : List ℕ) → HasNoOpenGate image → IsStore image → IsOnlyRead image
read_store image shut store = record { born = λ unborn. born_or_not image unborn store; shut = shut }

-- an image of a map with an entry that isn't well shaped is that of a store, since a new store has no entries
pub ill_shaped : (well : List ℕ → List ℕ → Type 0) (image : List ℕ) (m : Content) (P : Type 0) → RecoversTo image (Some m) → (HoldsWell well m → ⊥) → (IsStore image → P) → P
ill_shaped well image m P (pages, is, holds) ill of_store = ⊎_elim
    (λ unborn. absurd (ill (subst (HoldsWell well) (sym (one_map first_pages m nothing (subst (λ (ps : List (List ℕ)). HoldsMap ps m) unborn.1 holds) born_holds)) (holds_none well))))
    (λ store. of_store store.0) is

-- two failures that are one have one fault
pub err_same : {A E : Type 0} (x y : E) → ◌≡◌ {A = Result A E} (Err x) (Err y) → x ≡ y
err_same x y is = cc

-- what may be answered of a file that was loaded, and then of a call that failed
pub known_fault : (T : Type 0) (image : List ℕ) (fault : LoadFault) → IsUnborn image ⊎ IsStore image → LoadsKnown {T = T} image (Err fault)
known_fault T image Memory known = known
known_fault T image Disk known = tt
known_fault T image NotAStore known = tt
