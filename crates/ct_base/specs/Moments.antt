-- Moments: what a crash might have left at some time, and the bytes said by then.
use Rattle.std.specs.Prelude.{ℕ, ◌≡◌, ◌≤◌, ◌⊎◌, List, refl}
use Rattle.std.proofs.Common.{inl, inr, ⊎_elim, arith}

-- An object's own time. `since t x said` says that at some moment from t on a crash might have left x, when this was said.
pub record Timeline (X : Type 0) : Type 1 where
  pub clock : ℕ
  pub since : ℕ → X → List ℕ → Type 0

-- Each moment that came between has P.
pub record Passes {X : Type 0} (old new : Timeline X) (P : X → List ℕ → Type 0) : Type 0 where
  pub adds : (t : ℕ) (x : X) (said : List ℕ) → new.since t x said → old.since t x said ⊎ P x said

-- No moment is forgotten.
pub record Grows {X : Type 0} (old new : Timeline X) : Type 0 where
  pub later : old.clock ≤ new.clock
  pub kept : (t : ℕ) (x : X) (said : List ℕ) → t ≤ old.clock → old.since t x said → new.since t x said

-- No moment came between.
pub record AddsNothing {X : Type 0} (old new : Timeline X) : Type 0 where
  pub same : (t : ℕ) (x : X) (said : List ℕ) → new.since t x said → old.since t x said

-- computed examples: two timelines of numbers, of which the second has one moment more
abbrev one_moment : Timeline ℕ
one_moment = record { clock = 1; since = λ t x said. (t ≤ 1) × (x ≡ 7) }

abbrev two_moments : Timeline ℕ
two_moments = record { clock = 2; since = λ t x said. ((t ≤ 1) × (x ≡ 7)) ⊎ ((t ≤ 2) × (x ≡ 8)) }

grew : Grows one_moment two_moments
grew = record { later = omega arith; kept = λ t x said le was. inl was }

an_eight_came : Passes one_moment two_moments (λ x said. x ≡ 8)
an_eight_came = record { adds = λ t x said now. ⊎_elim (λ was. inl was) (λ new. inr new.1) now }

its_clock : two_moments.clock ≡ 2
its_clock = refl
