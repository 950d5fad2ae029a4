-- From what the function of a statement returned to the answer.
use Rattle.std.proofs.Common.{◌≡◌, ℕ, ◌+◌, ◌-◌, ◌^◌, Bool, true, List, Ok, Err, Vec, refl, ◌∙◌, arith, min}
use Rattle.std.specs.declared.alloc.Global.{Global}
use Rattle.ct_base.specs.Causes.{Rose}
use Rattle.ct_keep.specs.Content.{Content}
use Rattle.ct_keep.specs.declared.keepers.KeepFault.TheVariants.{Memory, Full as NoRoom}
use Rattle.ct_keep.specs.KeeperViews.{KeeperView, counted}
use Rattle.db_state.specs.States.{StoreState}
use Rattle.db_state.specs.Effects.{Effect}
use Rattle.db_engine.specs.Runs.{Step, NoMemory, Full}
use Rattle.db_state.specs.Plans.{GivesEffect}
use Rattle.db_engine.specs.Executing.{IsAnswered}
use Rattle.db_engine.specs.declared.replies.Reply.TheVariants.{Text as ReplyText, Full as ReplyFull, NoMemory as ReplyNoMemory}

pub answers_step : (m : StoreState) (effect : Effect) (may : Bool) (c : Content) (old new : KeeperView) (v : Vec ℕ Global) (reply : List ℕ)
    → reply ≡ v.items → GivesEffect m effect c old new (Ok v) → IsAnswered m effect may c old new (ReplyText reply)
answers_step m effect may c old new v reply is gives = record {
  answer = Step;
  moves = gives.moves;
  says = is ∙ gives.reply;
  place = λ e. cc;
  may_fill = λ e. cc;
  fulls = λ e. cc;
}

pub answers_memory : (m : StoreState) (effect : Effect) (may : Bool) (c : Content) (old new : KeeperView)
    → GivesEffect m effect c old new (Err Memory) → IsAnswered m effect may c old new ReplyNoMemory
answers_memory m effect may c old new gives = record {
  answer = NoMemory;
  moves = gives.moves;
  says = tt;
  place = λ e. cc;
  may_fill = λ e. cc;
  fulls = λ e. cc;
}

-- one more, up to the end of the count
pub rose : (old new : ℕ) → new ≡ counted true old → Rose old new
rose old new is = let e : new ≡ min (old + 1) (2 ^ 64 - 1) = is in omega (arith, e)

pub answers_full : (m : StoreState) (effect : Effect) (may : Bool) (c : Content) (old new : KeeperView) → may ≡ true
    → new.counts.fulls ≡ counted true old.counts.fulls → GivesEffect m effect c old new (Err NoRoom) → IsAnswered m effect may c old new ReplyFull
answers_full m effect may c old new fills fulls gives = record {
  answer = Full;
  moves = gives.moves;
  says = tt;
  place = λ e. gives.full refl;
  may_fill = λ e. fills;
  fulls = λ e. rose old.counts.fulls new.counts.fulls fulls;
}
