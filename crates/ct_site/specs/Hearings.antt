-- The calls of `hear`, each with what stood beside it.
use Rattle.std.specs.Prelude.{◌≡◌, ◌⊎◌, ℕ, Bool, true, false, List, [], ◌∷◌, ◌++◌, Option, Some, None, codes, refl}
use Rattle.std.specs.List.{Contains}
use Rattle.std.proofs.Common.{inl, inr, sym}
use Rattle.std.proofs.lemmas.List.Elements.{Contains-append_left, Contains-push, Contains-push_cases}

-- A call of `hear`: what was left of the script, and what had been said by then.
pub record Hearing : Type 0 where
  pub left : List ℕ
  pub said : List ℕ

-- it is told that `hear` was so called
abbrev pub WasCalled : Option (List Hearing) → Hearing → Type 0
WasCalled None h = ⊥
WasCalled (Some all) h = Contains all h

-- Earlier calls, and then one at which this was left and this had been said, if there was one since.
abbrev pub with_present : List Hearing → Bool → List ℕ → List ℕ → List Hearing
with_present earlier false left said = earlier
with_present earlier true left said = earlier ++ record { left = left; said = said } ∷ []

-- ---- laws: after a call it is there, with those before it, and no other is
pub present_there : (earlier : List Hearing) (left said : List ℕ) → Contains (with_present earlier true left said) (record { left = left; said = said })
present_there earlier left said = Contains-push earlier _

pub present_adds : (earlier : List Hearing) (here : Bool) (left said : List ℕ) (h : Hearing)
    → Contains (with_present earlier true left said) h → Contains (with_present earlier here left said) h ⊎ (h ≡ record { left = left; said = said })
present_adds earlier true left said h is = inl is
present_adds earlier false left said h is = swap (Contains-push_cases earlier (record { left = left; said = said }) h is)
  where
    swap : Contains earlier h ⊎ (record { left = left; said = said } ≡ h) → Contains earlier h ⊎ (h ≡ record { left = left; said = said })
    swap (inl was) = inl was
    swap (inr is) = inr (sym is)

pub present_keeps : (earlier : List Hearing) (here : Bool) (left said : List ℕ) (h : Hearing) → Contains (with_present earlier here left said) h → Contains (with_present earlier true left said) h
present_keeps earlier true left said h is = is
present_keeps earlier false left said h is = Contains-append_left earlier _ h is

-- ---- computed examples: the first call, and one that is told once though it was made twice
first_call : with_present [] true (codes "a;\n") [] ≡ record { left = codes "a;\n"; said = [] } ∷ []
first_call = refl

said_since : with_present (record { left = codes "a;\n"; said = [] } ∷ []) true [] (codes "ok") ≡ record { left = codes "a;\n"; said = [] } ∷ record { left = []; said = codes "ok" } ∷ []
said_since = refl
