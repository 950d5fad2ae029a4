-- What is found where the bytes of a page are read.
use Rattle.std.specs.Prelude.{◌≡◌, ℕ, List, length, Option, None, Some, refl}
use Rattle.ct_base.specs.Zeros.{zeros}
use Rattle.pg_map.specs.Kinds.{Kind, Free, Slotted, Long, bytes_of_kind, IsKind}

-- the kind of page that has these bytes, if one has
abbrev pub IsSheetOr : Option Kind → List ℕ → Type 0
IsSheetOr (Some kind) bytes = IsKind kind × (bytes_of_kind kind ≡ bytes)
IsSheetOr None bytes = (kind : Kind) → IsKind kind → bytes_of_kind kind ≡ bytes → ⊥

-- the slotted page that has these bytes, if one has
abbrev pub IsSlottedOr : Option Kind → List ℕ → Type 0
IsSlottedOr (Some kind) bytes = IsKind kind × (bytes_of_kind kind ≡ bytes)
IsSlottedOr None bytes = (ss : List (List ℕ)) → IsKind (Slotted ss) → bytes_of_kind (Slotted ss) ≡ bytes → ⊥

-- the long page that has these bytes, if one has
abbrev pub IsLongOr : Option Kind → List ℕ → Type 0
IsLongOr (Some kind) bytes = IsKind kind × (bytes_of_kind kind ≡ bytes)
IsLongOr None bytes = (next : ℕ) (used : List ℕ) → IsKind (Long next used) → bytes_of_kind (Long next used) ≡ bytes → ⊥

-- the free page, if these bytes are its
abbrev pub IsFreeOr : Option Kind → List ℕ → Type 0
IsFreeOr (Some kind) bytes = IsKind kind × (bytes_of_kind kind ≡ bytes)
IsFreeOr None bytes = bytes_of_kind Free ≡ bytes → ⊥

-- Where these are the bytes of a long page, it names this next page and has so many bytes of the value.
abbrev pub TellsLong : List ℕ → ℕ → ℕ → Type 0
TellsLong bytes next count = (n : ℕ) (used : List ℕ) → IsKind (Long n used) → bytes_of_kind (Long n used) ≡ bytes → (next ≡ n) × (count ≡ length used)

-- ---- computed example
zeros_are_free : IsSheetOr (Some Free) (zeros 4096)
unfolding bytes_of_kind
zeros_are_free = (tt, refl)
