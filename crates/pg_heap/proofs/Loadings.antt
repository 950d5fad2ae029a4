-- A store that is loaded.
use Rattle.std.specs.Prelude.{Result, Ok, Err}
use Rattle.std.proofs.Common.{◌≡◌, ℕ, List, length, Option, Some, None, refl, sym, ap, subst, inl, inr, ⊎_elim, ◌∙◌, arith}
use Rattle.std.proofs.lemmas.List.{length-map}
use Rattle.ct_base.specs.laws.Moments.{grows_then}
use Rattle.ct_site.specs.Disks.{DiskView, IsSame, IsSettled, Leaves, leaves_same, leaves_then}
use Rattle.ct_site.specs.laws.Calls.{same_then}
use Rattle.ct_keep.specs.declared.keepers.KeepFault.{KeepFault}
use Rattle.pg_cache.specs.Caches.{IsCacheOf, KeepsNone, none_kept}
use Rattle.pg_cache.specs.laws.Caches.{count_of_pages, stands_same}
use Rattle.ct_keep.specs.KeeperViews.{disk_faults_after, fault_of}
use Rattle.pg_journal.specs.Looking.{faults_after_load, AnswersBy, IsNoStore, Loaded, Loads, LoadsKnown, WritesNothing}
use Rattle.pg_journal.specs.Pages.{Numbered}
use Rattle.pg_journal.specs.Recovered.{IsRecovered, IsStore, first_pages}
use Rattle.pg_journal.specs.Standing.{DiskStands}
use Rattle.pg_journal.specs.laws.Recovered.{one_recovered}
use Rattle.pg_journal.specs.declared.faults.LoadFault.{LoadFault}
use Rattle.pg_journal.specs.declared.faults.LoadFault.TheVariants.{Memory, Disk, NotAStore}
use Rattle.pg_map.specs.MapReading.{nothing}
use Rattle.pg_directory.specs.Fetching.{ReadsDisk}
use Rattle.pg_directory.specs.Holding.{HoldsMap, RecoversTo, born_holds}
use Rattle.pg_directory.specs.Looking.{DiskHolds, store_pages}
use Rattle.pg_directory.specs.OpenStore.{IsStoreOf, IsStoreOr}
use Rattle.pg_directory.specs.Trees.{StorePage, bytes_of_page}
use Rattle.pg_directory.specs.declared.stores.OpenStore.{OpenStore}
use Rattle.pg_heap.specs.Loading.{SettledIfTold}

-- an image that is told was told before
pub some_before : (o : Option (List ℕ)) (n : Option (List ℕ)) (image : List ℕ) → (o ≡ None → n ≡ None) → n ≡ Some image → (before : List ℕ) × (o ≡ Some before)
some_before None n image untold told = absurd (let e : None ≡ Some image = sym (untold refl) ∙ told in cc e)
some_before (Some before) n image untold told = (before, refl)

-- a cache that keeps no page yet
pub first_cache : (old new : DiskView) (homes : ℕ) (cache : List Numbered) → KeepsNone cache → SettledIfTold old → (old.image ≡ None → new.image ≡ None) → ((image : List ℕ) → IsSettled old image → Loaded image new homes) → IsCacheOf new homes cache
first_cache old new homes cache none settled untold loaded = record {
  stands = λ image told.
      let b = some_before old.image new.image image untold told in
      let l = loaded b.0 (settled b.0 b.1) in
      (l.pages, l.stands);
  mirrors = λ pages st. none_kept cache pages none;
}

-- what a call that reads left, as what a load does
pub loads_read : {T U : Type 0} (old new : DiskView) (r : Result T KeepFault) (s : Result U LoadFault) → faults_after_load s old.faults ≡ disk_faults_after (fault_of r) old.faults → ReadsDisk old new r → Loads old new s
loads_read old new r s same reads = record { beside = reads.beside; untold = reads.untold; kept = reads.kept; later = reads.later; cause = reads.faults ∙ sym same }

pub found_store : (found : Option OpenStore) (store : OpenStore) (pages : List (List ℕ)) → IsStoreOr found pages → found ≡ Some store → IsStoreOf store pages
found_store found store pages is some = subst (λ (o : Option OpenStore). IsStoreOr o pages) some is

pub found_none : (found : Option OpenStore) (pages : List (List ℕ)) → IsStoreOr found pages → found ≡ None → IsStoreOr None pages
found_none found pages is none = subst (λ (o : Option OpenStore). IsStoreOr o pages) none is

pub none_recovered : (image : List ℕ) → IsNoStore image → RecoversTo image None
none_recovered image none m store r h = none.no store r

pub none_held : (image : List ℕ) (pages : List (List ℕ)) → IsRecovered image pages → IsStoreOr None pages → RecoversTo image None
none_held image pages r none m store s h = none m (subst (λ (l : List (List ℕ)). HoldsMap l m) (one_recovered image store pages s r) h)

-- a disk that was refused is as it was: one that is no store yet would have been loaded, and a store's was only read
pub refused_stays : (image : List ℕ) (old mid new : DiskView) (homes : ℕ) → Loaded image mid homes → RecoversTo image None → (IsStore image → IsSame old mid) → IsSame mid new → IsSame old new
refused_stays image old mid new homes l none kept same = ⊎_elim (λ unborn. absurd (none nothing first_pages (inl (unborn.0, refl)) born_holds)) (λ store. same_then old mid new (kept store.0) same) l.recovered

-- the pages that were opened are those of the disk
pub store_holds : (disk : DiskView) (homes : ℕ) (store : OpenStore) (pages : List (List ℕ)) (s : IsStoreOf store pages) → DiskStands disk homes pages → DiskHolds disk homes store.top s.behind
store_holds disk homes store pages s st =
    let long = ap (λ (l : List (List ℕ)). length l) s.is in
    let behind = length-map s.behind bytes_of_page in
    let count = count_of_pages disk homes pages st in
    let least = st.shut.closed.root.least in
    let homes_are = st.shut.count in
    record {
      stands = subst (DiskStands disk homes) s.is st;
      are = s.are;
      count = omega (arith, long, behind, count, least, homes_are);
    }

-- what was read before a call that failed, and by it
pub reads_both : {T U : Type 0} (old mid new : DiskView) (x : T) (r : Result U KeepFault) → ReadsDisk old mid (Ok x) → ReadsDisk mid new r → ReadsDisk old new r
reads_both old mid new x r a b = record {
  beside = b.beside ∙ a.beside;
  untold = λ none. b.untold (a.untold none);
  kept = grows_then old.time mid.time new.time a.kept b.kept;
  later = let m = a.later in let n = b.later in omega (arith, m, n);
  faults = b.faults ∙ ap (disk_faults_after (fault_of r)) a.faults;
}

-- the disk goes on holding what it held
pub holds_on : (old new : DiskView) (homes top : ℕ) (pages : List StorePage) → IsSame old new → DiskHolds old homes top pages → DiskHolds new homes top pages
holds_on old new homes top pages same h = record { stands = stands_same old new homes (store_pages top pages) same h.stands; are = h.are; count = h.count }

-- ---- what is handed on

-- what was only read since leaves what it left
pub reads_leave : (old mid new : DiskView) (P : List ℕ → Type 0) → Leaves old mid P → IsSame mid new → new.beside ≡ mid.beside → Leaves old new P
reads_leave old mid new P leaves same beside = leaves_then old mid new P leaves (leaves_same mid new P same beside leaves.now)

pub refused_writes : {A : Type 0} (r : Result A LoadFault) (old new : DiskView) → r ≡ Err NotAStore → WritesNothing r old new → IsSame old new
refused_writes {A = A} r old new is same = subst {A = Result A LoadFault} (λ r1. WritesNothing r1 old new) is same

-- the fault that a call answered is the one that is handed on
pub fault_is : {T E : Type 0} (r : Result T E) (y x z : E) → r ≡ Err y → y ≡ x → r ≡ Err z → x ≡ z
fault_is r y x z was same is = cc

no_memory : {T U : Type 0} (fault other : LoadFault) → ◌≡◌ {A = Result T LoadFault} (Err other) (Err fault) → ◌≡◌ {A = Result U LoadFault} (Err Memory) (Err fault) → (other ≡ Memory → ⊥) → ⊥
no_memory fault other was is different = let a : other ≡ fault = cc in let b : Memory ≡ fault = cc in different (a ∙ sym b)

pub known_handed : {T U : Type 0} (image : List ℕ) (r : Result T LoadFault) (s : Result U LoadFault) (fault : LoadFault) → r ≡ Err fault → s ≡ Err fault → AnswersBy image r → LoadsKnown image s
known_handed image r (Ok x) fault was is answers = absurd (cc is)
known_handed image r (Err Disk) fault was is answers = tt
known_handed image r (Err NotAStore) fault was is answers = tt
known_handed image (Ok x) (Err Memory) fault was is answers = answers
known_handed image (Err Memory) (Err Memory) fault was is answers = inr answers.0
known_handed image (Err Disk) (Err Memory) fault was is answers = absurd (no_memory fault Disk was is (λ e. cc))
known_handed image (Err NotAStore) (Err Memory) fault was is answers = absurd (no_memory fault NotAStore was is (λ e. cc))
