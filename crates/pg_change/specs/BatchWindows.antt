-- The pages that a batch begins with: those of the old entries of its keys.
use Rattle.std.specs.Prelude.{◌≡◌, ℕ, ◌-◌, ◌<◌, Bool, false, List, [], ◌∷◌, length, map, get_or, Option, Some, None, refl}
use Rattle.pg_directory.specs.declared.entries.EntryAt.{EntryAt}
use Rattle.pg_directory.specs.Trees.{StorePage, HasString}

-- the place of an entry's page, counted from the first one behind the root, or else another one
abbrev pub place_or : ℕ → Option EntryAt → ℕ
place_or none None = none
place_or none (Some e) = e.page - 3

-- Of each of these places where an entry stands, the page is in memory.
pub record AreIn (pages : List StorePage) (os : List (Option EntryAt)) (away : List Bool) : Type 0 where
  pub there : (i : ℕ) (e : EntryAt) → i < length os → get_or os i None ≡ Some e → HasString pages e → get_or away (e.page - 3) false ≡ false

-- ---- computed examples
of_two_keys : map (place_or 9) (Some (record { page = 5; slot = 1 }) ∷ None ∷ []) ≡ 2 ∷ 9 ∷ []
of_two_keys = refl
