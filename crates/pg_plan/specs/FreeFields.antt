-- The fields of a list of free pages.
use Rattle.std.specs.Prelude.{◌≡◌, ℕ, ◌+◌, ◌≤◌, List, [], ◌∷◌, ◌++◌, length, take, vec_len, refl}
use Rattle.std.specs.Vec.{vec_capacity}
use Rattle.pg_plan.specs.declared.free_lists.FreeList.TheInside.{Inside}
use Rattle.pg_plan.specs.FreePlaces.{FreePlaces}

-- the first places are those before; so many of them are left, and those that were added stand behind
abbrev pub free_places : List ℕ → ℕ → List ℕ → FreePlaces
free_places first left added = record { before = first; now = take left first ++ added }

abbrev pub free_places_of : Inside → FreePlaces
free_places_of f = free_places f.first.items f.left f.added.items

-- There is memory to put those that were added behind the first.
pub record IsFreeList (f : Inside) : Type 0 where
  pub within : f.left ≤ length f.first.items
  pub memory : vec_len f.first + vec_len f.added ≤ vec_capacity f.first

-- ---- computed example: one of two was taken, and one was added
one_taken_and_one_added : free_places (3 ∷ 5 ∷ []) 1 (8 ∷ []) ≡ record { before = 3 ∷ 5 ∷ []; now = 3 ∷ 8 ∷ [] }
one_taken_and_one_added = refl
