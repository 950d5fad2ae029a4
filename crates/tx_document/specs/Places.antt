-- Noting the places of a document one by one.
use Rattle.std.specs.Prelude.{ℕ, ◌≡◌, List, [], ◌∷◌, ◌++◌, Option, Some, None, Vec, codes, refl}
use Rattle.std.specs.declared.alloc.Global.{Global}
use Rattle.std.specs.Ordering.{nat_cmp}
use Rattle.std.specs.Cmp.Lexicographic.{slice_cmp}
use Rattle.std.specs.Coded.{Coded, code_by, coded×, coded_list, coded_ℕ}
use Rattle.std.specs.FinMap.{FinMap, get, insert, empty, from_sorted, code}
use Rattle.ct_base.specs.declared.numbers.Pair.{Pair}
use Rattle.ct_base.specs.laws.SortedMaps.{seen_map}
use Rattle.tx_document.specs.declared.views.WordView.{WordView}
use Rattle.tx_document.specs.Documents.{pair}
use Rattle.tx_document.specs.Entries.{DocumentPlace, word_places}

-- the places of names, in the order of the names' bytes
abbrev pub PlaceMap : Type 0
PlaceMap = FinMap (slice_cmp nat_cmp) (List Pair)

-- the places that a name had
abbrev pub had : Option (List Pair) → List Pair
had None = []
had (Some ps) = ps

-- a further place of a name
abbrev pub with_place : PlaceMap → List ℕ → Pair → PlaceMap
with_place m name p = insert m name (had (get m name) ++ p ∷ [])

-- places one after the other
abbrev pub with_places : PlaceMap → List DocumentPlace → PlaceMap
with_places m [] = m
with_places m (x ∷ xs) = with_places (with_place m x.0 x.1) xs

-- the places of words one after the other
abbrev pub with_word_places : PlaceMap → List WordView → PlaceMap
with_word_places m [] = m
with_word_places m (w ∷ ws) = with_word_places (with_places m (word_places w)) ws

-- ---- a map in memory

-- a name with its places
abbrev pub NamedPlaces : Type 0
NamedPlaces = List ℕ × Vec Pair Global

abbrev pub map_of : List NamedPlaces → PlaceMap
map_of es = seen_map (slice_cmp nat_cmp) (λ (name : List ℕ). name) (λ (ps : Vec Pair Global). ps.items) es

abbrev pub pair_code : Coded Pair
pair_code = code_by (ℕ × ℕ) (coded× coded_ℕ coded_ℕ) (λ p. (p.first, p.last)) (λ q. record { first = q.0; last = q.1 }) (λ _. refl)

abbrev pub place_map_code : Coded PlaceMap
place_map_code = code (coded_list coded_ℕ) (coded_list pair_code)

-- computed examples
one_after_the_other : with_places empty ((codes "a", pair 1 1) ∷ (codes "b", pair 2 2) ∷ []) ≡ with_place (with_place empty (codes "a") (pair 1 1)) (codes "b") (pair 2 2)
one_after_the_other = refl

one_entry : (name : List ℕ) (places : Vec Pair Global) → map_of ((name, places) ∷ []) ≡ from_sorted ((name, places.items) ∷ [])
one_entry name places = refl
