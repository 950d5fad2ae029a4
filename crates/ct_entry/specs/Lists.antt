-- Elements of lists.
use Rattle.std.specs.Prelude.{ℕ, ◌≡◌, ◌<◌, List, [], ◌∷◌, refl}
use Rattle.std.proofs.Common.{◌⊎◌, inl, inr, arith}

module _ {A : Type 0} where
  -- x is an element
  abbrev pub IsIn : A → List A → Type 0
  IsIn x [] = ⊥
  IsIn x (y ∷ ys) = (x ≡ y) ⊎ IsIn x ys

  -- each element stands once
  abbrev pub AreApart : List A → Type 0
  AreApart [] = Unit {0}
  AreApart (x ∷ xs) = (IsIn x xs → ⊥) × AreApart xs

  -- P holds of each element
  abbrev pub EachIs : (A → Type 0) → List A → Type 0
  EachIs P [] = Unit {0}
  EachIs P (x ∷ xs) = P x × EachIs P xs

-- computed examples
the_second : IsIn {A = ℕ} 2 (1 ∷ 2 ∷ [])
the_second = inr (inl refl)

not_apart : AreApart {A = ℕ} (1 ∷ 1 ∷ []) → ⊥
not_apart apart = apart.0 (inl refl)

all_small : EachIs {A = ℕ} (λ n. n < 10) (1 ∷ 2 ∷ [])
all_small = (omega arith, (omega arith, tt))
