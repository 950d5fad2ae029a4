-- Moments of one call after another.
use Rattle.std.specs.Prelude.{ℕ, List}
use Rattle.std.proofs.Common.{inl, inr, ⊎_elim, arith}
use Rattle.ct_base.specs.Moments.{Timeline, Passes, Grows, AddsNothing}

pub grows_itself : {X : Type 0} (time : Timeline X) → Grows time time
grows_itself time = record { later = omega arith; kept = λ t x said le s. s }

pub grows_then : {X : Type 0} (old mid new : Timeline X) → Grows old mid → Grows mid new → Grows old new
grows_then old mid new first second = record {
  later = omega (arith, first.later, second.later);
  kept = λ t x said le s. second.kept t x said (omega (arith, le, first.later)) (first.kept t x said le s);
}

pub adds_nothing_itself : {X : Type 0} (time : Timeline X) → AddsNothing time time
adds_nothing_itself time = record { same = λ t x said now. now }

pub adds_nothing_then : {X : Type 0} (old mid new : Timeline X) → AddsNothing old mid → AddsNothing mid new → AddsNothing old new
adds_nothing_then old mid new first second = record { same = λ t x said now. first.same t x said (second.same t x said now) }

module _ {X : Type 0} where
  pub passes_none : (time : Timeline X) (P : X → List ℕ → Type 0) → Passes time time P
  passes_none time P = record { adds = λ t x said now. inl now }

  pub passes_nothing : (old new : Timeline X) (P : X → List ℕ → Type 0) → AddsNothing old new → Passes old new P
  passes_nothing old new P stays = record { adds = λ t x said now. inl (stays.same t x said now) }

  pub passes_more : (old new : Timeline X) (P Q : X → List ℕ → Type 0) → Passes old new P → ((x : X) (said : List ℕ) → P x said → Q x said) → Passes old new Q
  passes_more old new P Q passes more = record { adds = λ t x said now. ⊎_elim (λ was. inl was) (λ p. inr (more x said p)) (passes.adds t x said now) }

  -- one after the other
  pub passes_then : (old mid new : Timeline X) (P : X → List ℕ → Type 0) → Passes old mid P → Passes mid new P → Passes old new P
  passes_then old mid new P first second = record {
    adds = λ t x said now. ⊎_elim (first.adds t x said) (λ p. inr p) (second.adds t x said now);
  }

  -- each moment since the old now has P
  pub passes_since : (old new : Timeline X) (P : X → List ℕ → Type 0) → Passes old new P → ((x : X) (said : List ℕ) → old.since old.clock x said → P x said)
      → (x : X) (said : List ℕ) → new.since old.clock x said → P x said
  passes_since old new P passes here x said now = ⊎_elim (here x said) (λ p. p) (passes.adds old.clock x said now)
