-- Pages in memory that hold a map, and where the strings of a key stand.
use Rattle.std.specs.Prelude.{◌≡◌, ℕ, ◌+◌, ◌^◌, ◌≤◌, ◌<◌, List, [], ◌∷◌, length, get_or, codes, refl}
use Rattle.ct_keep.specs.Content.{Content}
use Rattle.pg_map.specs.Kinds.{Each, Kind, Free, Slotted, IsKind, Short, item_bytes}
use Rattle.pg_map.specs.Loose.{IsLoose}
use Rattle.pg_map.specs.PageStrings.{IsKeyAt}
use Rattle.std.proofs.Common.{arith}

-- Pages that may be written hold the map, and beside it a chain of long pages that no entry has: its first page, its pages, and its bytes.
pub record IsPlanned (kinds : List Kind) (m : Content) (first : ℕ) (loose value : List ℕ) : Type 0 where
  pub are : Each IsKind kinds
  pub count : 3 + length kinds ≤ 2 ^ 31
  pub is : IsLoose kinds m first loose value

-- They hold the map, and nothing else.
abbrev pub IsDone : List Kind → Content → Type 0
IsDone kinds m = IsPlanned kinds m 0 [] []

-- The page at this place has a string of the key.
pub record HasKeyAt (kinds : List Kind) (at : ℕ) (key : List ℕ) : Type 0 where
  pub within : at < length kinds
  pub strings : List (List ℕ)
  pub number : ℕ
  pub kind : get_or kinds at Free ≡ Slotted strings
  pub is : IsKeyAt strings number key

-- ---- computed example: the key of a string that stands alone on the first page
on_the_first_page : HasKeyAt (Slotted (item_bytes (Short (codes "k") (codes "v")) ∷ []) ∷ []) 0 (codes "k")
on_the_first_page = record {
  within = omega arith;
  strings = item_bytes (Short (codes "k") (codes "v")) ∷ [];
  number = 0;
  kind = refl;
  is = record { within = omega arith; is = refl };
}
