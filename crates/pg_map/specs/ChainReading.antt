-- Which long pages were taken, and what is found where the long pages of a value are read.
use Rattle.std.specs.Prelude.{◌≡◌, ℕ, ◌+◌, ◌-◌, ◌≤◌, ◌<◌, Bool, true, false, List, [], ◌∷◌, ◌++◌, length, get_or, set, Option, None, Some, refl}
use Rattle.std.specs.Bool.{if◌then◌else◌}
use Rattle.pg_map.specs.Kinds.{Kind, Long}
use Rattle.pg_map.specs.Holding.{kind_of_page, IsChain, times}

-- 1 where the page of this number was taken
abbrev pub taken_times : List Bool → ℕ → ℕ
taken_times taken i = if get_or taken (i - 3) false then 1 else 0

-- A long page that was not taken is taken, and its bytes are appended to the value.
pub record TakesPage (kinds : List Kind) (page next : ℕ) (old new : List Bool) (before after : List ℕ) : Type 0 where
  pub low : 3 ≤ page
  pub bytes : List ℕ
  pub kind : kind_of_page kinds page ≡ Long next bytes
  pub first : taken_times old page ≡ 0
  pub within : page - 3 < length old
  pub taken : new ≡ set old (page - 3) true
  pub value : after ≡ before ++ bytes

-- the page was taken, or there is no such page
abbrev pub IsTakenOr : Option ℕ → List Kind → ℕ → List Bool → List Bool → List ℕ → List ℕ → Type 0
IsTakenOr (Some next) kinds page old new before after = TakesPage kinds page next old new before after
IsTakenOr None kinds page old new before after = (next : ℕ) (bytes : List ℕ) → 3 ≤ page → kind_of_page kinds page ≡ Long next bytes → taken_times old page ≡ 0 → ⊥

-- These pages were taken, and no others.
pub record AreTaken (old new : List Bool) (pages : List ℕ) : Type 0 where
  pub counts : (i : ℕ) → 3 ≤ i → times i pages + taken_times old i ≡ taken_times new i

-- None of these pages was taken, and none comes twice.
pub record MayTake (old : List Bool) (pages : List ℕ) : Type 0 where
  pub once : (i : ℕ) → 3 ≤ i → times i pages + taken_times old i ≤ 1

-- the value of so many bytes whose first long page this is, with its pages
pub record HasValue (kinds : List Kind) (old new : List Bool) (first count : ℕ) (value : List ℕ) : Type 0 where
  pub pages : List ℕ
  pub chain : IsChain kinds first pages value
  pub long : length value ≡ count
  pub takes : AreTaken old new pages

-- the value was found and its pages were taken, or no value may stand there
abbrev pub IsValueOr : Option (List ℕ) → List Kind → List Bool → List Bool → ℕ → ℕ → Type 0
IsValueOr (Some value) kinds old new first count = HasValue kinds old new first count value
IsValueOr None kinds old new first count = (pages value : List ℕ) → IsChain kinds first pages value → length value ≡ count → MayTake old pages → ⊥

-- ---- computed example: the second of three pages was taken
one_mark : taken_times (false ∷ true ∷ false ∷ []) 4 ≡ 1
one_mark = refl

no_mark : taken_times (false ∷ true ∷ false ∷ []) 5 ≡ 0
no_mark = refl
