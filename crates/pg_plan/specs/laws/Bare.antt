-- Pages that aren't in memory have nothing in memory, whatever a plan makes of the others.
use Rattle.std.proofs.Common.{◌≡◌, ◌⊎◌, inl, inr, ⊎_elim, ℕ, Bool, List, [], get_or, sym, ap, subst, ◌∙◌}
use Rattle.std.proofs.lemmas.Bool.{cases_eq}
use Rattle.pg_map.specs.Kinds.{Kind, Free, Slotted}
use Rattle.pg_window.specs.Windows.{IsBare, StayAway}
use Rattle.pg_plan.specs.Drafts.{Drafted, SeesNone, StaysAway}
use Rattle.pg_plan.specs.DirectoryPages.{IsPageTaken, IsPageGiven, OnlyBare}
use Rattle.pg_plan.specs.laws.Away.{still_away}

-- after the changes of a batch
pub none_of_away : (old new : Drafted) → SeesNone old → StaysAway old new → StayAway new.now old.away
none_of_away old new sees stays = record { bare = λ at away. subst IsBare (sym (still_away old new sees stays at away).1) tt }

-- and after pages were taken for the directory, and given back
pub none_then : (old new : List Kind) (away : List Bool) → OnlyBare old new → StayAway old away → StayAway new away
none_then old new away same stay = record { bare = λ at marked. ⊎_elim (λ e. subst IsBare (sym e) (stay.bare at marked)) (λ both. both.1) (same.each at) }

pub bare_same : (old new : List Kind) → new ≡ old → OnlyBare old new
bare_same old new is = record { each = λ at. inl (ap (λ (l : List Kind). get_or l at Free) is) }

pub bare_then : (old mid new : List Kind) → OnlyBare old mid → OnlyBare mid new → OnlyBare old new
bare_then old mid new first second = record {
  each = λ at. ⊎_elim
      (λ e. ⊎_elim (λ f. inl (f ∙ e)) (λ both. inr (subst IsBare e both.0, both.1)) (second.each at))
      (λ one. ⊎_elim (λ f. inr (one.0, subst IsBare (sym f) one.1)) (λ both. inr (one.0, both.1)) (second.each at)) (first.each at);
}

pub bare_taken : (old new : Drafted) (at : ℕ) → IsPageTaken old new at → OnlyBare old.now new.now
bare_taken old new at taken = record { each = λ i. ⊎_elim (λ here_. here i here_) (λ apart. inl (taken.others.kinds i (λ e. apart (sym e)))) (cases_eq at i) }
  where
    here : (i : ℕ) → at ≡ i → (get_or new.now i Free ≡ get_or old.now i Free) ⊎ (IsBare (get_or old.now i Free) × IsBare (get_or new.now i Free))
    here i e = subst (λ (n : ℕ). (get_or new.now n Free ≡ get_or old.now n Free) ⊎ (IsBare (get_or old.now n Free) × IsBare (get_or new.now n Free))) e (inr (subst IsBare (sym taken.was) tt, subst IsBare (sym taken.kind) tt))

pub bare_given : (old new : Drafted) (at : ℕ) → get_or old.now at Free ≡ Slotted [] → IsPageGiven old new at → OnlyBare old.now new.now
bare_given old new at was given = record { each = λ i. ⊎_elim (λ here_. here i here_) (λ apart. inl (given.others.kinds i (λ e. apart (sym e)))) (cases_eq at i) }
  where
    here : (i : ℕ) → at ≡ i → (get_or new.now i Free ≡ get_or old.now i Free) ⊎ (IsBare (get_or old.now i Free) × IsBare (get_or new.now i Free))
    here i e = subst (λ (n : ℕ). (get_or new.now n Free ≡ get_or old.now n Free) ⊎ (IsBare (get_or old.now n Free) × IsBare (get_or new.now n Free))) e (inr (subst IsBare (sym was) tt, subst IsBare (sym given.kind) tt))
