-- The calls of `hear` in a run, as it goes on.
use Rattle.std.proofs.Common.{◌≡◌, ◌++◌, [], ℕ, List, false, Option, inl, inr, ⊎_elim, refl, sym, ap, ◌∙◌, subst, append_assoc, append-nil}
use Rattle.ct_base.specs.Told.{with_prefix, with_suffix}
use Rattle.ct_site.specs.Hearings.{Hearing}
use Rattle.ct_site.specs.Disks.{Beside, Asks, IsHearing}
use Rattle.db_engine.specs.Runs.{Turn, pieces, transcript}
use Rattle.db_console.specs.Worlds.{World, HasPieces}
use Rattle.db_console.specs.Asking.{AskedThen, Calls}

pub calls_none : (told : Option (List Hearing)) (P : Hearing → Type 0) → Calls told told P
calls_none told P = record { each = λ h was. inl was }

pub calls_more : (old new : Option (List Hearing)) (P Q : Hearing → Type 0) → Calls old new P → ((h : Hearing) → P h → Q h) → Calls old new Q
calls_more old new P Q calls more = record { each = λ h now. ⊎_elim inl (λ p. inr (more h p)) (calls.each h now) }

-- no call of it came
pub calls_same : (old mid new : Option (List Hearing)) (P : Hearing → Type 0) → new ≡ mid → Calls old mid P → Calls old new P
calls_same old mid new P same calls = subst (λ (told : Option (List Hearing)). Calls old told P) (sym same) calls

-- one came
pub calls_asked : (old : Option (List Hearing)) (mid new : Beside) (P : Hearing → Type 0) → Asks mid new → Calls old mid.hearings P → ((h : Hearing) → IsHearing mid h → P h) → Calls old new.hearings P
calls_asked old mid new P asks calls here = record { each = λ h now. ⊎_elim (calls.each h) (λ is. inr (here h is)) (asks.adds h now) }

module _ (left : Option (List ℕ)) (limit : ℕ) (was : World) where
  -- so many bytes were taken, and all statements in them answered
  pub asked_now : (taken piece : List ℕ) (turns : List Turn) (rest : List ℕ) (mid : Beside) → left ≡ with_prefix taken mid.left → HasPieces false taken (pieces turns) rest
      → mid.said ≡ with_suffix was.said (transcript limit was.state turns) → (h : Hearing) → IsHearing mid h → AskedThen left (taken ++ piece) limit was turns h
  asked_now taken piece turns rest mid prefix cut said h is = record {
    part = taken;
    later = piece;
    prefix = refl;
    left_then = prefix ∙ ap (with_prefix taken) is.0;
    done = turns;
    others = [];
    first = sym (append-nil turns);
    rest = rest;
    cut = cut;
    said_then = sym said ∙ is.1;
  }

  -- more bytes were taken
  pub asked_taken : (taken more : List ℕ) (turns : List Turn) (h : Hearing) → AskedThen left (taken ++ []) limit was turns h → AskedThen left (taken ++ more) limit was turns h
  asked_taken taken more turns h a = record {
    part = a.part;
    later = a.later ++ more;
    prefix = ap (λ (l : List ℕ). l ++ more) (sym (append-nil taken) ∙ a.prefix) ∙ append_assoc a.part a.later more;
    left_then = a.left_then;
    done = a.done;
    others = a.others;
    first = a.first;
    rest = a.rest;
    cut = a.cut;
    said_then = a.said_then;
  }

  pub asked_as : (taken same : List ℕ) (turns : List Turn) (h : Hearing) → same ≡ taken → AskedThen left taken limit was turns h → AskedThen left same limit was turns h
  asked_as taken same turns h is a = subst (λ (l : List ℕ). AskedThen left l limit was turns h) (sym is) a

  -- more turns came
  pub asked_turns : (taken : List ℕ) (turns more : List Turn) (h : Hearing) → AskedThen left taken limit was turns h → AskedThen left taken limit was (turns ++ more) h
  asked_turns taken turns more h a = record {
    part = a.part;
    later = a.later;
    prefix = a.prefix;
    left_then = a.left_then;
    done = a.done;
    others = a.others ++ more;
    first = ap (λ (l : List Turn). l ++ more) a.first ∙ append_assoc a.done a.others more;
    rest = a.rest;
    cut = a.cut;
    said_then = a.said_then;
  }
