-- What edits make of keys and the places of their entries.
use Rattle.std.specs.Prelude.{◌≡◌, ◌≢◌, ℕ, List, [], ◌∷◌, ◌++◌, map, filter, codes, Option, None, Some, refl}
use Rattle.std.specs.List.{Contains}
use Rattle.std.specs.Ordering.{nat_cmp, is_lt}
use Rattle.std.specs.Cmp.Lexicographic.{slice_cmp}
use Rattle.pg_map.specs.Kinds.{Each}
use Rattle.pg_directory.specs.declared.entries.EntryAt.{EntryAt}
use Rattle.pg_directory.specs.Placing.{KeyedPlace}
use Rattle.pg_directory.specs.Trees.{StorePage, key_at, IsBelow}
use Rattle.pg_leaves.specs.declared.edits.Edit.{Edit}

-- An edit: a key, and where its entry stands from then on, or that there is none.
abbrev pub KeyEdit : Type 0
KeyEdit = List ℕ × Option EntryAt

abbrev pub edits_of : List Edit → List KeyEdit
edits_of us = map {B = List ℕ × Option EntryAt} (λ (u : Edit). (u.key.items, u.place)) us

-- places, each with the key of its entry
abbrev pub keyed : List StorePage → List EntryAt → List KeyedPlace
keyed pages es = map {B = List ℕ × EntryAt} (λ (e : EntryAt). (key_at pages e, e)) es

-- the key of each pair is below those of all behind it
abbrev pub Rising : {X : Type 0} → List (List ℕ × X) → Type 0
Rising [] = Unit {0}
Rising (p ∷ ps) = Each (λ q. IsBelow p.0 q.0) ps × Rising ps

-- the pairs whose keys are below this one, and those whose keys are above it
abbrev pub pairs_below : List ℕ → List KeyedPlace → List KeyedPlace
pairs_below k ps = filter (λ (p : KeyedPlace). is_lt (slice_cmp nat_cmp p.0 k)) ps

abbrev pub pairs_above : List ℕ → List KeyedPlace → List KeyedPlace
pairs_above k ps = filter (λ (p : KeyedPlace). is_lt (slice_cmp nat_cmp k p.0)) ps

-- a key with its place, if it has one
abbrev pub pair_of : List ℕ → Option EntryAt → List KeyedPlace
pair_of k None = []
pair_of k (Some e) = (k, e) ∷ []

-- The pairs after the edits, which come in order of key: an edit's key has the place that the edit says, or no pair; all others stay.
abbrev pub edited : List KeyedPlace → List KeyEdit → List KeyedPlace
edited ps [] = ps
edited ps (u ∷ us) = pairs_below u.0 ps ++ (pair_of u.0 u.1 ++ edited (pairs_above u.0 ps) us)

abbrev pub places_in : List KeyedPlace → List EntryAt
places_in ps = map {B = EntryAt} (λ (p : KeyedPlace). p.1) ps

-- the places after edits, where the keys of the entries stand on these pages
abbrev pub places_edited : List StorePage → List EntryAt → List KeyEdit → List EntryAt
places_edited pages es us = places_in (edited (keyed pages es) us)

-- No edit has this key.
abbrev pub IsUnedited : List KeyEdit → List ℕ → Type 0
IsUnedited us k = (u : KeyEdit) → Contains us u → u.0 ≢ k

-- All keys of the one list are below all keys of the other.
abbrev pub AreKeysApart : {X Y : Type 0} → List (List ℕ × X) → List (List ℕ × Y) → Type 0
AreKeysApart ps qs = Each (λ p. Each (λ q. IsBelow p.0 q.0) qs) ps

-- ---- computed examples
module _ (d e f g : EntryAt) where
  abbrev three : List KeyedPlace
  three = (codes "b", d) ∷ (codes "d", e) ∷ (codes "f", f) ∷ []

  -- "a" is new, "d" has another place, "f" goes, and "g", which wasn't there, goes too
  three_edited : edited three ((codes "a", Some g) ∷ (codes "d", Some g) ∷ (codes "f", None) ∷ (codes "g", None) ∷ []) ≡ (codes "a", g) ∷ (codes "b", d) ∷ (codes "d", g) ∷ []
  three_edited = refl

  none_edited : edited three [] ≡ three
  none_edited = refl

  from_nothing : edited [] ((codes "a", Some d) ∷ (codes "b", None) ∷ (codes "c", Some e) ∷ []) ≡ (codes "a", d) ∷ (codes "c", e) ∷ []
  from_nothing = refl
