-- A list in the order of a comparison.
use Rattle.std.specs.Prelude.{◌≡◌, ℕ, cond, List, [], ◌∷◌, refl}
use Rattle.std.specs.declared.cmp.Ordering.{Ordering}
use Rattle.std.specs.Ordering.{is_lt, nat_cmp}
use Rattle.std.specs.List.Sorted.{IsPermutation, IsSorted}

-- x in front of the first element that isn't less than it
abbrev pub insert_by : {X : Type 0} → (X → X → Ordering) → X → List X → List X
insert_by cmp x [] = x ∷ []
insert_by cmp x (y ∷ ys) = cond (is_lt (cmp y x)) (y ∷ insert_by cmp x ys) (x ∷ y ∷ ys)

-- The elements in order, by insertion. Those that tie stand as they stood.
abbrev pub sorted_by : {X : Type 0} → (X → X → Ordering) → List X → List X
sorted_by cmp [] = []
sorted_by cmp (x ∷ xs) = insert_by cmp x (sorted_by cmp xs)

-- no other list has the elements of xs in order
abbrev pub HasOneOrder : {X : Type 0} → (X → X → Ordering) → List X → Type 0
HasOneOrder {X} cmp xs = (ys : List X) → IsPermutation xs ys → IsSorted cmp ys → ys ≡ sorted_by cmp xs

-- computed examples
numbers_in_order : sorted_by nat_cmp (3 ∷ 1 ∷ 2 ∷ 1 ∷ []) ≡ 1 ∷ 1 ∷ 2 ∷ 3 ∷ []
numbers_in_order = refl

-- by their first numbers, where two pairs tie
ties_stay : sorted_by (λ (a b : ℕ × ℕ). nat_cmp a.0 b.0) ((2, 7) ∷ (1, 9) ∷ (2, 5) ∷ []) ≡ (1, 9) ∷ (2, 7) ∷ (2, 5) ∷ []
ties_stay = refl

falling_numbers : sorted_by (λ a b. nat_cmp b a) (1 ∷ 3 ∷ 2 ∷ []) ≡ 3 ∷ 2 ∷ 1 ∷ []
falling_numbers = refl
