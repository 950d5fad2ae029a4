-- What is known of a disk and of what stands beside it, and what each call makes of that.
use Rattle.std.specs.Prelude.{◌≡◌, ◌⊎◌, ℕ, true, List, Option, None, Some, is_some, Result, Ok, OnOk}
use Rattle.std.proofs.Common.{refl, ap, sym, ◌∙◌}
use Rattle.ct_site.specs.declared.outside.Failed.{Failed}
use Rattle.ct_site.specs.FaultCounts.{CountsFaults, counts_then, raised}
use Rattle.ct_base.specs.Moments.{Timeline, Passes, AddsNothing, Grows}
use Rattle.ct_base.specs.laws.Moments.{grows_then, passes_none, passes_nothing, passes_more, passes_then}
use Rattle.ct_base.specs.Told.{with_prefix, with_suffix, IsSaid, SaysPart}
use Rattle.ct_site.specs.Hearings.{Hearing, WasCalled}

-- What stands beside a disk. No call of the disk changes it.
pub record Beside : Type 0 where
  -- what is left of the script, and the bytes said, where they are told
  pub left : Option (List ℕ)
  pub said : Option (List ℕ)
  -- the calls of `hear` so far, where they are told; one more between which and the last nothing was heard or said may be left out
  pub hearings : Option (List Hearing)
  -- how often `hear` answered that the script ends, up to 2^64 - 1
  pub ends : ℕ
  -- how often hearing and saying failed, up to 2^64 - 1
  pub hear_faults : ℕ
  pub say_faults : ℕ

pub record DiskView : Type 1 where
  -- what a read gives, where it is told
  pub image : Option (List ℕ)
  -- the images that a crash now may leave
  pub may_leave : List ℕ → Type 0
  pub beside : Beside
  -- the images that a crash might have left since, each with the bytes said by then
  pub time : Timeline (List ℕ)
  -- how often a call of the disk failed, up to 2^64 - 1
  pub faults : ℕ
  -- how often `sync` was called, however it ended, up to 2^64 - 1
  pub syncs : ℕ

-- a crash between two calls may leave this image, when this was said
abbrev pub IsNow : DiskView → List ℕ → List ℕ → Type 0
IsNow disk image said = disk.may_leave image × IsSaid disk.beside.said said

-- A read gives this image, and a crash leaves nothing else.
pub record IsSettled (disk : DiskView) (image : List ℕ) : Type 0 where
  pub told : disk.image ≡ Some image
  pub only : (left : List ℕ) → disk.may_leave left → left ≡ image

-- each image that may be left is one that might be left before, after a step
abbrev pub FollowsBy : (List ℕ → List ℕ → Type 0) → (List ℕ → Type 0) → (List ℕ → Type 0) → Type 0
FollowsBy step old new = (image : List ℕ) → new image → (before : List ℕ) × old before × step before image

-- After Ok, a crash leaves nothing but what a read gave before the call, where that is told.
abbrev pub MakesDurable : {T : Type 0} → DiskView → DiskView → Result T Failed → Type 0
MakesDurable old new result = (image : List ℕ) → old.image ≡ Some image → OnOk result ((left : List ℕ) → new.may_leave left → left ≡ image)

-- A read gives what it gave, a crash leaves nothing new, no moment came between, and nothing was synced.
pub record IsSame (old new : DiskView) : Type 0 where
  pub image : new.image ≡ old.image
  pub crash : (image : List ℕ) → new.may_leave image → old.may_leave image
  pub time : AddsNothing old.time new.time
  pub syncs : new.syncs ≡ old.syncs

-- What every call of a disk keeps, and every function that makes such calls alone.
pub record Works {T : Type 0} (old new : DiskView) (result : Result T Failed) : Type 0 where
  pub beside : new.beside ≡ old.beside
  -- a disk that tells no image goes on telling none
  pub untold : old.image ≡ None → new.image ≡ None
  -- no moment is forgotten
  pub kept : Grows old.time new.time
  -- a fault is counted, and nothing else is: none is passed over
  pub cause : CountsFaults old.faults new.faults result

-- one after the other
pub works_then : {T U : Type 0} (old mid new : DiskView) (x : T) (result : Result U Failed) → Works old mid (Ok x) → Works mid new result → Works old new result
works_then old mid new x result first second = record {
  beside = second.beside ∙ first.beside;
  untold = λ none. second.untold (first.untold none);
  kept = grows_then old.time mid.time new.time first.kept second.kept;
  cause = counts_then old.faults mid.faults new.faults result first.cause.passed second.cause;
}

-- Between the two a crash left images that have P, and nothing was said.
pub record Leaves (old new : DiskView) (P : List ℕ → Type 0) : Type 0 where
  pub beside : new.beside ≡ old.beside
  pub time : Passes old.time new.time (λ image said. P image × IsSaid old.beside.said said)
  -- and so it does now
  pub now : (image : List ℕ) → new.may_leave image → P image

-- What a sync does, whether it went well or not: a read gives what it gave, a crash leaves nothing new, and the sync was counted.
pub record IsSync {T : Type 0} (old new : DiskView) (result : Result T Failed) : Type 0 where
  pub durable : MakesDurable old new result
  pub image : new.image ≡ old.image
  pub crash : (left : List ℕ) → new.may_leave left → old.may_leave left
  pub leaves : Leaves old new old.may_leave
  pub syncs : new.syncs ≡ raised old.syncs
  pub works : Works old new result

pub leaves_none : (disk : DiskView) (P : List ℕ → Type 0) → ((image : List ℕ) → disk.may_leave image → P image) → Leaves disk disk P
leaves_none disk P here = record { beside = refl; time = passes_none disk.time _; now = here }

pub leaves_same : (old new : DiskView) (P : List ℕ → Type 0) → IsSame old new → new.beside ≡ old.beside → ((image : List ℕ) → old.may_leave image → P image) → Leaves old new P
leaves_same old new P same beside here = record { beside = beside; time = passes_nothing old.time new.time _ same.time; now = λ image left. here image (same.crash image left) }

pub leaves_more : (old new : DiskView) (P Q : List ℕ → Type 0) → Leaves old new P → ((image : List ℕ) → P image → Q image) → Leaves old new Q
leaves_more old new P Q leaves more = record {
  beside = leaves.beside;
  time = passes_more old.time new.time _ _ leaves.time (λ image said p. (more image p.0, p.1));
  now = λ image left. more image (leaves.now image left);
}

pub leaves_then : (old mid new : DiskView) (P : List ℕ → Type 0) → Leaves old mid P → Leaves mid new P → Leaves old new P
leaves_then old mid new P first second = record {
  beside = second.beside ∙ first.beside;
  time = passes_then old.time mid.time new.time _ first.time (passes_more mid.time new.time _ _ second.time (λ image said p. (p.0, ap (λ (b : Beside). b.said) (sym first.beside) ∙ p.1)));
  now = second.now;
}

-- `hear` is called where this is left and this was said
abbrev pub IsHearing : Beside → Hearing → Type 0
IsHearing beside h = (beside.left ≡ Some h.left) × (beside.said ≡ Some h.said)

-- `hear` was called once: where its calls are told, so are those before and this one, and no other.
pub record Asks (old new : Beside) : Type 0 where
  pub told : is_some new.hearings ≡ is_some old.hearings
  pub keeps : (h : Hearing) → WasCalled old.hearings h → WasCalled new.hearings h
  pub notes : (h : Hearing) → is_some old.hearings ≡ true → IsHearing old h → WasCalled new.hearings h
  pub adds : (h : Hearing) → WasCalled new.hearings h → WasCalled old.hearings h ⊎ IsHearing old h

-- Bytes of the script were heard by one call, and nothing else was done, but that the end may have been told.
pub record Hears (heard : List ℕ) (old new : DiskView) : Type 0 where
  pub left : old.beside.left ≡ with_prefix heard new.beside.left
  pub said : new.beside.said ≡ old.beside.said
  pub asks : Asks old.beside new.beside
  pub say_faults : new.beside.say_faults ≡ old.beside.say_faults
  pub same : IsSame old new
  pub kept : Grows old.time new.time
  pub faults : new.faults ≡ old.faults

-- Bytes were said, and nothing else was done. A crash among them found some prefix of them said.
pub record Says (told : List ℕ) (old new : DiskView) : Type 0 where
  pub said : new.beside.said ≡ with_suffix old.beside.said told
  pub left : new.beside.left ≡ old.beside.left
  pub hearings : new.beside.hearings ≡ old.beside.hearings
  pub ends : new.beside.ends ≡ old.beside.ends
  pub hear_faults : new.beside.hear_faults ≡ old.beside.hear_faults
  pub image : new.image ≡ old.image
  pub crash : (image : List ℕ) → new.may_leave image → old.may_leave image
  pub time : Passes old.time new.time (λ image said. old.may_leave image × SaysPart old.beside.said told said)
  pub kept : Grows old.time new.time
  pub faults : new.faults ≡ old.faults
  pub syncs : new.syncs ≡ old.syncs
