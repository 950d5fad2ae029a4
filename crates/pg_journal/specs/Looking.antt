-- What is found where an image is looked at.
use Rattle.std.specs.Prelude.{◌≡◌, ◌≢◌, ℕ, ◌+◌, ◌*◌, ◌≤◌, ◌<◌, ◌⊎◌, Bool, true, false, if◌then◌else◌, List, [], ◌∷◌, refl, length, take, drop, Option, Some, None, Result, Ok, Err}
use Rattle.std.proofs.Common.{◌∙◌, ap, arith, inl}
use Rattle.ct_site.specs.FaultCounts.{raised}
use Rattle.ct_site.specs.declared.outside.Failed.{Failed}
use Rattle.ct_base.specs.Moments.{Grows}
use Rattle.ct_base.specs.laws.Moments.{grows_then}
use Rattle.ct_site.specs.Disks.{DiskView, IsSame, Works}
use Rattle.pg_journal.specs.declared.faults.LoadFault.{LoadFault}
use Rattle.pg_journal.specs.declared.faults.LoadFault.TheVariants.{Memory, Disk, NotAStore}
use Rattle.pg_journal.specs.Pages.{page, byte, Numbered, AreBetween, put_on, homes_in, IsRoot}
use Rattle.ct_base.specs.Zeros.{zeros}
use Rattle.pg_journal.specs.Recovered.{mark, IsUnborn, IsStore, gate, IsRecovered, IsOpen, IsOpened, batch_page, batch_count, batch_in, filling, table, numbered_at}
use Rattle.pg_journal.specs.Births.{IsUnbornAs}
use Rattle.pg_journal.specs.Standing.{DiskStands}

-- a disk of so many bytes, where they are told
pub record IsSized (size : ℕ) (disk : DiskView) : Type 0 where
  pub is : (image : List ℕ) → disk.image ≡ Some image → size ≡ length image

abbrev pub IsBorn : List ℕ → Type 0
IsBorn image = (1 < length image) × ((byte image 0 ≢ 0) ⊎ (12288 < length image))

-- unborn, and how; or born
abbrev pub IsUnbornOr : Option Bool → List ℕ → Type 0
IsUnbornOr (Some empty) image = IsUnbornAs empty image
IsUnbornOr None image = IsBorn image

abbrev pub HasMark : Bool → List ℕ → Type 0
HasMark true image = take 4095 (drop 1 image) ≡ mark
HasMark false image = take 4095 (drop 1 image) ≢ mark

-- how many homes a page tells of, if it is a root
abbrev pub IsRootOr : Option ℕ → List ℕ → Type 0
IsRootOr (Some homes) root = IsRoot root × (homes ≡ homes_in root)
IsRootOr None root = IsRoot root → ⊥

-- how many homes there are, if page 2 is a root and they are inside the file
abbrev pub IsClosedOr : Option ℕ → List ℕ → Type 0
IsClosedOr (Some homes) image = IsRoot (page image 2) × (homes ≡ homes_in (page image 2)) × (4096 * homes ≤ length image)
IsClosedOr None image = IsRoot (page image 2) → 4096 * homes_in (page image 2) ≤ length image → ⊥

pub record IsNoStore (image : List ℕ) : Type 0 where
  pub no : (pages : List (List ℕ)) → IsRecovered image pages → ⊥

-- whether a load failed by the disk
abbrev pub is_disk_fault : {T : Type 0} → Result T LoadFault → Bool
is_disk_fault (Ok x) = false
is_disk_fault (Err Memory) = false
is_disk_fault (Err Disk) = true
is_disk_fault (Err NotAStore) = false

-- the disk's count of faults after a load
abbrev pub faults_after_load : {T : Type 0} → Result T LoadFault → ℕ → ℕ
faults_after_load result n = if is_disk_fault result then raised n else n

-- What each function that loads keeps: as `Works`, with the faults of loading.
pub record Loads {T : Type 0} (old new : DiskView) (result : Result T LoadFault) : Type 0 where
  pub beside : new.beside ≡ old.beside
  pub untold : old.image ≡ None → new.image ≡ None
  pub kept : Grows old.time new.time
  pub later : old.faults ≤ new.faults
  -- a fault of the disk is answered, and nothing else is: none is passed over
  pub cause : new.faults ≡ faults_after_load result old.faults

-- Nothing was written, where it answers that the file is no store or that there was no memory.
abbrev pub WritesNothing : {T : Type 0} → Result T LoadFault → DiskView → DiskView → Type 0
WritesNothing (Ok x) old new = Unit {0}
WritesNothing (Err Memory) old new = IsSame old new
WritesNothing (Err Disk) old new = Unit {0}
WritesNothing (Err NotAStore) old new = IsSame old new

-- Which answers a load may give of this image. Ok: only if it is unborn, or has the mark and the length of a store. Memory: only if it
-- has these, and its gate is open.
abbrev pub AnswersBy : {T : Type 0} → List ℕ → Result T LoadFault → Type 0
AnswersBy image (Ok x) = IsUnborn image ⊎ IsStore image
AnswersBy image (Err Memory) = IsStore image × (gate image ≡ 1)
AnswersBy image (Err Disk) = Unit {0}
AnswersBy image (Err NotAStore) = Unit {0}

-- The same for a call that loads the journal and then more: it may want memory for every file that the journal loads.
abbrev pub LoadsKnown : {T : Type 0} → List ℕ → Result T LoadFault → Type 0
LoadsKnown image (Ok x) = IsUnborn image ⊎ IsStore image
LoadsKnown image (Err Memory) = IsUnborn image ⊎ IsStore image
LoadsKnown image (Err Disk) = Unit {0}
LoadsKnown image (Err NotAStore) = Unit {0}

-- ---- what loading leaves, one call after another: these laws stand beside `Loads`, where proofs find them

pub loads_then : {T U : Type 0} (old mid new : DiskView) (x : T) (result : Result U LoadFault) → Works old mid (Ok x) → Loads mid new result → Loads old new result
loads_then old mid new x result first second = record {
  beside = second.beside ∙ first.beside;
  untold = λ none. second.untold (first.untold none);
  kept = grows_then old.time mid.time new.time first.kept second.kept;
  later = omega (arith, first.cause.later, second.later);
  cause = second.cause ∙ ap (faults_after_load result) first.cause.passed;
}

-- a call of the disk failed
pub loads_failed : {T U : Type 0} (old new : DiskView) (fault : Failed) → Works {T = T} old new (Err fault) → Loads {T = U} old new (Err Disk)
loads_failed old new fault works = record { beside = works.beside; untold = works.untold; kept = works.kept; later = works.cause.later; cause = works.cause.failed }

-- all went well with the disk
pub loads_well : {T U : Type 0} (old new : DiskView) (x : T) (result : Result U LoadFault) → is_disk_fault result ≡ false → Works old new (Ok x) → Loads old new result
loads_well old new x result other works = record {
  beside = works.beside;
  untold = works.untold;
  kept = works.kept;
  later = works.cause.later;
  cause = rw other works.cause.passed;
}

-- ---- a batch before which the gate is open

-- The first i items of the batch were read, and the next number is to be at least `low`.
pub record IsRead (image : List ℕ) (count low i : ℕ) (items : List Numbered) : Type 0 where
  pub is : items ≡ table (numbered_at image) 0 i
  pub onward : (rest : ℕ) → AreBetween low (batch_page image) (table (numbered_at image) i rest) → AreBetween 2 (batch_page image) (table (numbered_at image) 0 (i + rest))
  pub back : (rest : ℕ) → i + rest ≡ count → AreBetween 2 (batch_page image) (table (numbered_at image) 0 count) → AreBetween low (batch_page image) (table (numbered_at image) i rest)

-- the items, if their numbers are those of a batch
abbrev pub ArePagesOr : Option (List Numbered) → List ℕ → Type 0
ArePagesOr (Some pages) image = AreBetween 2 (batch_page image) (batch_in image) × (batch_in image ≡ pages)
ArePagesOr None image = AreBetween 2 (batch_page image) (batch_in image) → ⊥

-- so many zeros, or other bytes
abbrev pub AreZeros : Bool → ℕ → List ℕ → Type 0
AreZeros true n bytes = bytes ≡ zeros n
AreZeros false n bytes = bytes ≢ zeros n

-- where zeros are to stand
abbrev pub IsFilledOr : Bool → List ℕ → Type 0
IsFilledOr true image = take (filling (batch_count image)) (drop (4096 * batch_page image + 4 * batch_count image) image) ≡ zeros (filling (batch_count image))
IsFilledOr false image = take (filling (batch_count image)) (drop (4096 * batch_page image + 4 * batch_count image) image) ≢ zeros (filling (batch_count image))

abbrev pub IsBatchOr : Option (List Numbered) → List ℕ → Type 0
IsBatchOr (Some pages) image = IsOpen image × (batch_in image ≡ pages)
IsBatchOr None image = IsOpen image → ⊥

-- the pages of the batch and how many homes there are with it, if the store may be one whose gate is open
abbrev pub IsOpenedOr : Option (List Numbered × ℕ) → List ℕ → Type 0
IsOpenedOr (Some found) image = IsOpen image × (batch_in image ≡ found.0) × IsRoot (put_on found.0 (page image) 2) × (found.1 ≡ homes_in (put_on found.0 (page image) 2)) × (found.1 ≤ batch_page image)
IsOpenedOr None image = (pages : List (List ℕ)) → IsOpened image pages → ⊥

-- ---- loading

-- The image recovers to pages, and the disk stands for them now.
pub record Loaded (image : List ℕ) (disk : DiskView) (homes : ℕ) : Type 0 where
  pub pages : List (List ℕ)
  pub recovered : IsRecovered image pages
  pub stands : DiskStands disk homes pages

-- a part was loaded, and then the disk failed
pub loads_broken : {T U V : Type 0} (old mid new : DiskView) (x : T) (fault : Failed) → Loads old mid (Ok x) → Works {T = U} mid new (Err fault) → Loads {T = V} old new (Err Disk)
loads_broken old mid new x fault first second = record {
  beside = second.beside ∙ first.beside;
  untold = λ none. second.untold (first.untold none);
  kept = grows_then old.time mid.time new.time first.kept second.kept;
  later = omega (arith, first.later, second.cause.later);
  cause = second.cause.failed ∙ ap raised first.cause;
}

-- or all went well with the disk
pub loads_more : {T U V : Type 0} (old mid new : DiskView) (x : T) (y : U) (result : Result V LoadFault) → is_disk_fault result ≡ false → Loads old mid (Ok x) → Works mid new (Ok y) → Loads old new result
loads_more old mid new x y result other first second = record {
  beside = second.beside ∙ first.beside;
  untold = λ none. second.untold (first.untold none);
  kept = grows_then old.time mid.time new.time first.kept second.kept;
  later = omega (arith, first.later, second.cause.later);
  cause = rw other (second.cause.passed ∙ first.cause);
}

-- ---- computed examples: zeros, and a count of faults after a load that the disk failed and after one that found no store
two_zeros : AreZeros true 2 (0 ∷ 0 ∷ [])
two_zeros = refl

-- an empty file may be loaded
empty_is_loaded : AnswersBy {T = ℕ} [] (Ok 3)
empty_is_loaded = inl (inl (omega arith))

a_fault_counted : faults_after_load {T = ℕ} (Err Disk) 4 ≡ 5
a_fault_counted = refl

no_store_counted : faults_after_load {T = ℕ} (Err NotAStore) 4 ≡ 4
no_store_counted = refl
