-- What the steps of a walk pass, and where they end.
use Rattle.std.proofs.Common.{◌≡◌, ℕ, Bool, true, false, List, None, refl, sym, ap, ◌∙◌}
use Rattle.cat_walk.specs.Places.{IsFirstAfter, IsNext, comes_before}
use Rattle.cat_walk.specs.laws.Orders.{before_then, same_place}

-- The test holds at no place after the first one up to the other, with it.
pub record HoldsNowhere (holds : List ℕ → Bool) (after last : List ℕ) : Type 0 where
  pub onward : (p : List ℕ) → comes_before last p ≡ true → comes_before after p ≡ true
  pub none : (p : List ℕ) → comes_before after p ≡ true → comes_before last p ≡ false → holds p ≡ false

pub nowhere_yet : (holds : List ℕ → Bool) (after : List ℕ) → HoldsNowhere holds after after
nowhere_yet holds after = record { onward = λ p h. h; none = λ p h not. no_way p (sym not ∙ h) }
  where
    no_way : (p : List ℕ) → false ≡ true → holds p ≡ false
    no_way p e = cc

module _ (part holds : List ℕ → Bool) (only : (p : List ℕ) → part p ≡ false → holds p ≡ false) (after last : List ℕ) (up_to : HoldsNowhere holds after last) where
  -- between the last place and the next of a part of the test
  between : (x p : List ℕ) → IsFirstAfter part last x → comes_before after p ≡ true → comes_before p x ≡ true → holds p ≡ false
  between x p next h before = elim (comes_before last p) as (λ t. comes_before last p ≡ t → holds p ≡ false) [
    | true ↦ λ t. only p (next.first p t before)
    | false ↦ λ t. up_to.none p h t
  ] refl

  -- where the part holds nowhere more, neither does the test
  pub ends : IsNext part last None → IsNext holds after None
  ends none p h = elim (comes_before last p) as (λ t. comes_before last p ≡ t → holds p ≡ false) [
    | true ↦ λ t. only p (none p t)
    | false ↦ λ t. up_to.none p h t
  ] refl

  -- the place at which both hold is the next
  pub stops : (x : List ℕ) → IsFirstAfter part last x → holds x ≡ true → IsFirstAfter holds after x
  stops x next at = record { behind = up_to.onward x next.behind; at = at; first = λ p h before. between x p next h before }

  -- one at which the test doesn't hold is passed
  pub passes : (x : List ℕ) → IsFirstAfter part last x → holds x ≡ false → HoldsNowhere holds after x
  passes x next not = record {
    onward = λ p h. up_to.onward p (before_then last x p next.behind h);
    none = λ p h behind. elim (comes_before p x) as (λ t. comes_before p x ≡ t → holds p ≡ false) [
      | true ↦ λ t. between x p next h t
      | false ↦ λ t. ap holds (same_place p x t behind) ∙ not
    ] refl;
  }
