-- The laws of the map that pages hold, as one function's contract has them.
use Rattle.std.specs.Prelude.{◌≡◌, List, ℕ}
use Rattle.ct_keep.specs.Content.{Content}
use Rattle.pg_map.specs.Holding.{Holds}
use Rattle.pg_map.specs.MapReading.{map_in}

abbrev pub PagesHoldOneMap : Type 0
PagesHoldOneMap = (pages : List (List ℕ)) (m n : Content) → Holds pages m → Holds pages n → m ≡ n

abbrev pub PagesAreRead : Type 0
PagesAreRead = (pages : List (List ℕ)) (m : Content) → Holds pages m → map_in pages ≡ m
