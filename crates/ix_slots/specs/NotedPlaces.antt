-- Places that are noted under bytes.
use Rattle.std.specs.Prelude.{ℕ, ◌≡◌, bytes_eq, List, [], ◌∷◌, ◌++◌, Vec, refl}
use Rattle.std.specs.Bool.{if◌then◌else◌}
use Rattle.std.specs.Option.{option_map_or}
use Rattle.std.specs.declared.alloc.Global.{Global}
use Rattle.std.specs.Ordering.{nat_cmp}
use Rattle.std.specs.Cmp.Lexicographic.{slice_cmp}
use Rattle.std.specs.BTreeMap.{BTreeMap, get_by}

-- the places by the bytes
abbrev pub NotedMap : Type 0
NotedMap = BTreeMap (Vec ℕ Global) (Vec ℕ Global)

-- THE PLACES UNDER SOME BYTES
abbrev pub noted_under : List ℕ → NotedMap → List ℕ
noted_under bytes m = option_map_or (λ v. v.items) (get_by (λ k. slice_cmp nat_cmp bytes k.items) m) []

-- A PLACE MORE under some bytes, behind those that are there
abbrev pub PutsPlace : NotedMap → NotedMap → List ℕ → ℕ → Type 0
PutsPlace old new bytes place = (q : List ℕ) → noted_under q new ≡ (if bytes_eq bytes q then noted_under q old ++ place ∷ [] else noted_under q old)

-- computed example: in a map without entries there is none
none_noted : (bytes : List ℕ) (m : NotedMap) → m.entries ≡ [] → noted_under bytes m ≡ []
none_noted bytes m none = rw none refl
