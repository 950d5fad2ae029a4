-- The changed pages of a draft, by their numbers.
use Rattle.std.specs.Prelude.{◌≡◌, ◌≢◌, ◌↔◌, ◌⊎◌, ◌≤◌, ◌<◌, ℕ, ◌+◌, false, List, [], ◌∷◌, length, get_or, map, refl}
use Rattle.std.specs.List.{Contains}
use Rattle.std.specs.List.Sorted.{IsStrictlyIncreasing}
use Rattle.pg_map.specs.Kinds.{Free}
use Rattle.pg_plan.specs.Drafts.{Drafted}

-- the numbers of pages that are counted from the first one behind the root
abbrev pub numbers_at : List ℕ → List ℕ
numbers_at places = map {B = ℕ} (λ (at : ℕ). at + 3) places

-- The same numbers, in order and each once.
pub record AreSortedOnce (old new : List ℕ) : Type 0 where
  pub rise : IsStrictlyIncreasing new
  pub same : (n : ℕ) → Contains old n ↔ Contains new n
  pub few : length new ≤ length old

-- The page at this place is what it was.
pub record IsAsBefore (d : Drafted) (at : ℕ) : Type 0 where
  pub kind : get_or d.before.kinds at Free ≡ get_or d.now at Free
  pub away : get_or d.before.away at false ≡ get_or d.away at false

-- The numbers, in order and each once, are those of the pages that count as changed. Each of these is there, and each page that has none is
-- what it was.
pub record AreTouched (d : Drafted) (numbers : List ℕ) : Type 0 where
  pub rise : IsStrictlyIncreasing numbers
  pub within : (n : ℕ) → Contains numbers n → (3 ≤ n) × (n < 3 + length d.now)
  pub few : length numbers ≤ length d.touched
  pub all : (at : ℕ) → at < length d.now → Contains numbers (at + 3) ⊎ IsAsBefore d at
  pub new : (at : ℕ) → length d.before.kinds ≤ at → at < length d.now → Contains numbers (at + 3)
  pub same : (at : ℕ) → Contains d.touched at ↔ Contains numbers (at + 3)

-- This place counts as changed now, and each other one does if it did.
pub record TouchesOne (old new : List ℕ) (at : ℕ) : Type 0 where
  pub here : Contains new at
  pub others : (i : ℕ) → i ≢ at → Contains new i ↔ Contains old i

-- ---- computed example: the third page behind the root
of_the_third : numbers_at (2 ∷ []) ≡ 5 ∷ []
of_the_third = refl
