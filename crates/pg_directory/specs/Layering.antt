-- All levels of a directory above its leaves.
use Rattle.std.specs.Prelude.{◌≡◌, ℕ, ◌+◌, ◌≤◌, ◌<◌, List, [], ◌∷◌, length, flat_map, take, refl}
use Rattle.pg_directory.specs.declared.entries.Child.{Child}
use Rattle.pg_directory.specs.Building.{Above, numbers_of, AreLevels}
use Rattle.pg_directory.specs.laws.Building.{numbers_down}

-- the pages of some levels, one level after the other
abbrev pub all_pages : List (List Above) → List Above
all_pages levels = flat_map (λ (as_ : List Above). as_) levels

-- Pages above these leaves, level by level, the last of them the top: fewer than the leaves, under the first of these numbers; and all their
-- numbers, from the top down.
pub record BuildsLevels (leaves : List Child) (numbers : List ℕ) (as_ : List Above) (inner : List ℕ) (top : Child) : Type 0 where
  pub levels : List (List Above)
  pub are : AreLevels 0 leaves levels top
  pub pages_are : as_ ≡ all_pages levels
  pub inner_are : inner ≡ numbers_down levels []
  pub numbers_are : numbers_of as_ ≡ take (length as_) numbers
  pub fewer : length as_ + 1 ≤ length leaves
  pub few : length levels < 256

-- ---- computed example: one leaf has no page above it
module _ (leaf : Child) where
  above_one : BuildsLevels (leaf ∷ []) [] [] [] leaf
  above_one = record { levels = []; are = refl; pages_are = refl; inner_are = refl; numbers_are = refl; fewer = omega Rattle.std.proofs.Common.arith; few = omega Rattle.std.proofs.Common.arith }
