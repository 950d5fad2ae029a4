-- The changes of a batch, as contracts see them, and what a keeper may hold.
use Rattle.std.specs.Prelude.{ℕ, ◌≡◌, List, [], ◌∷◌, Option, Some, None, codes, refl}
use Rattle.std.specs.FinMap.{get}
use Rattle.ct_keep.specs.Content.{Content, IsEntry}

-- Each change that puts an entry puts one within the bounds, and one of those that `well` tells of.
abbrev pub AreWell : (List ℕ → List ℕ → Type 0) → List (List ℕ × Option (List ℕ)) → Type 0
AreWell well [] = Unit {0}
AreWell well ((key, None) ∷ ws) = AreWell well ws
AreWell well ((key, Some value) ∷ ws) = IsEntry key value × well key value × AreWell well ws

-- an entry within the bounds, and one that the keeper may hold
abbrev pub IsWell : (List ℕ → List ℕ → Type 0) → List ℕ → List ℕ → Type 0
IsWell well key value = IsEntry key value × well key value

-- of every entry
abbrev pub AnyEntry : List ℕ → List ℕ → Type 0
AnyEntry key value = Unit {0}

-- Each entry of a content is such.
pub record HoldsWell (well : List ℕ → List ℕ → Type 0) (m : Content) : Type 0 where
  pub each : (key value : List ℕ) → get m key ≡ Some value → IsWell well key value

-- each within the bounds
abbrev pub HoldsEntries : Content → Type 0
HoldsEntries m = HoldsWell AnyEntry m

-- computed examples: a change that takes an entry away is always well, and one that puts an entry is where the entry is
removal : (well : List ℕ → List ℕ → Type 0) → AreWell well ((codes "a", None) ∷ []) ≡ Unit {0}
removal well = refl

one_put : (well : List ℕ → List ℕ → Type 0) → AreWell well ((codes "a", Some (codes "1")) ∷ []) ≡ (IsEntry (codes "a") (codes "1") × well (codes "a") (codes "1") × Unit {0})
one_put well = refl
