-- What reads and a commit give of an effect.
use Rattle.std.proofs.Common.{◌≡◌, ℕ, ◌<◌, Some, None, Result, Ok, Err, Vec, refl, sym, ap, subst, inl, inr, arith}
use Rattle.std.specs.Result.{IfOk}
use Rattle.std.specs.declared.alloc.Global.{Global}
use Rattle.ct_keep.specs.declared.keepers.KeepFault.{KeepFault}
use Rattle.ct_keep.specs.declared.keepers.KeepFault.TheVariants.{Memory, Disk, Full as NoRoom}
use Rattle.ct_keep.specs.Content.{Content}
use Rattle.ct_keep.specs.KeeperViews.{KeeperView, ReadsKeeper, IsDurable, KeepsLimit, fault_of, is_full, counted}
use Rattle.ct_keep.specs.laws.Composing.{same_limit, reads_then, reads_only, reads_failed, answers_then, answers_failed}
use Rattle.db_cond.specs.Faults.{Refusal, refusal_line}
use Rattle.db_state.specs.States.{StoreState, StandsForState}
use Rattle.db_state.specs.Effects.{Effect, Refused, OnlyLooks, state_by, reply_by}
use Rattle.db_state.specs.Entries.{Makes}
use Rattle.db_state.specs.Room.{room}
use Rattle.db_state.specs.Plans.{StandsBy, MakesBy, GivesEffect}
use Rattle.db_state.specs.laws.SamePostings.{looks_make, looks_stay}

-- ---- a statement that is refused, or fails, or only reads

-- a content that stays is no heavier
pub keeps_itself : (limit : ℕ) (c : Content) → KeepsLimit limit c c
keeps_itself limit c = inr (omega arith)

pub gives_refused : (m : StoreState) (effect : Effect) (c : Content) (old new : KeeperView) (v : Vec ℕ Global) → IsDurable old → old.content ≡ Some c → StandsForState c (state_by m effect) → Makes effect c c → ReadsKeeper old new None → v.items ≡ reply_by effect → GivesEffect m effect c old new (Ok v)
gives_refused m effect c old new v settled holds stands makes reads is = record {
  moves = record { next = c; stands = stands; makes = makes; goes = reads_only c old new settled holds reads; limited = keeps_itself old.fixed.limit c; same = λ e. refl };
  reply = is;
  full = λ e. cc;
}

stands_failed : (m : StoreState) (effect : Effect) (c : Content) (fault : KeepFault) → (Some fault ≡ Some NoRoom → ⊥) → StandsForState c m → StandsBy (Some fault) m effect c c
stands_failed m effect c Memory not_full stands = refl
stands_failed m effect c NoRoom not_full stands = absurd (not_full refl)
stands_failed m effect c Disk not_full stands = inl stands

makes_failed : (effect : Effect) (c : Content) (fault : KeepFault) → (Some fault ≡ Some NoRoom → ⊥) → MakesBy (Some fault) effect c c
makes_failed effect c Memory not_full = tt
makes_failed effect c NoRoom not_full = absurd (not_full refl)
makes_failed effect c Disk not_full = inl refl

pub gives_failed : (m : StoreState) (effect : Effect) (c : Content) (old new : KeeperView) (fault : KeepFault) → IsDurable old → old.content ≡ Some c → StandsForState c m → ReadsKeeper old new (Some fault) → GivesEffect m effect c old new (Err fault)
gives_failed m effect c old new fault settled holds stands reads = record {
  moves = record {
    next = c;
    stands = stands_failed m effect c fault reads.not_full stands;
    makes = makes_failed effect c fault reads.not_full;
    goes = reads_failed c c old new fault settled holds reads;
    limited = answers_failed fault old.fixed.limit c c (λ e. reads.not_full (ap (λ (f : KeepFault). Some f) e));
    same = λ e. refl;
  };
  reply = tt;
  full = λ e. absurd (reads.not_full e);
}

-- ---- reads, and then more

pub gives_then : (m : StoreState) (effect : Effect) (c : Content) (old mid new : KeeperView) (result : Result (Vec ℕ Global) KeepFault) → ReadsKeeper old mid None → GivesEffect m effect c mid new result → GivesEffect m effect c old new result
gives_then m effect c old mid new result reads gives = record {
  moves = record {
    next = gives.moves.next;
    stands = gives.moves.stands;
    makes = gives.moves.makes;
    goes = reads_then c gives.moves.next old mid new (fault_of result) reads gives.moves.goes;
    limited = answers_then c gives.moves.next old mid (fault_of result) reads gives.moves.limited;
    same = gives.moves.same;
  };
  reply = gives.reply;
  full = λ e. let place = gives.full e in record { done = place.done; over = subst (λ (limit : ℕ). limit < room (state_by m effect)) (same_limit reads.kept.fixed) place.over };
}

-- ---- ways out that say what they return

-- a refusal, by its line
pub gives_line : (m : StoreState) (effect : Effect) (refusal : Refusal) (c : Content) (old new : KeeperView) (v : Vec ℕ Global) → IsDurable old → old.content ≡ Some c → StandsForState c m → ReadsKeeper old new None → effect ≡ Refused refusal → v.items ≡ refusal_line refusal → GivesEffect m effect c old new (Ok v)
gives_line m effect refusal c old new v settled holds stands reads is line =
    subst (λ (e : Effect). GivesEffect m e c old new (Ok v)) (sym is) (gives_refused m (Refused refusal) c old new v settled holds stands refl reads line)

-- the effect as it is computed
pub gives_as : (m : StoreState) (effect done : Effect) (c : Content) (old new : KeeperView) (result : Result (Vec ℕ Global) KeepFault) → effect ≡ done → GivesEffect m done c old new result → GivesEffect m effect c old new result
gives_as m effect done c old new result is gives = subst (λ (e : Effect). GivesEffect m e c old new result) (sym is) gives

-- ---- statements that only read

-- what reads alone give of an effect that only looks
pub gives_read : (m : StoreState) (effect : Effect) (c : Content) (old new : KeeperView) (result : Result (Vec ℕ Global) KeepFault) → IsDurable old → old.content ≡ Some c → StandsForState c m → ReadsKeeper old new (fault_of result)
    → IfOk result (λ v. v.items ≡ reply_by effect) → OnlyLooks m effect → GivesEffect m effect c old new result
gives_read m effect c old new (Ok v) settled holds stands reads reply looks =
    gives_refused m effect c old new v settled holds (subst (StandsForState c) (sym (looks_stay m effect looks)) stands) (looks_make m effect c looks) reads reply
gives_read m effect c old new (Err fault) settled holds stands reads reply looks = gives_failed m effect c old new fault settled holds stands reads

-- how often a commit was refused: they make none
pub reads_fulls : (old new : KeeperView) (result : Result (Vec ℕ Global) KeepFault) → ReadsKeeper old new (fault_of result) → new.counts.fulls ≡ counted (is_full (fault_of result)) old.counts.fulls
reads_fulls old new (Ok v) reads = reads.fulls
reads_fulls old new (Err Memory) reads = reads.fulls
reads_fulls old new (Err Disk) reads = reads.fulls
reads_fulls old new (Err NoRoom) reads = absurd (reads.not_full refl)
