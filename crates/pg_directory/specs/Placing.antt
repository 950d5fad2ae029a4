-- The places of entries, with their keys, while they are put in order.
use Rattle.std.specs.Prelude.{◌≡◌, ◌&&◌, ℕ, Bool, true, false, List, [], ◌∷◌, map, get_or, codes, refl}
use Rattle.std.specs.Ordering.{nat_cmp, is_lt}
use Rattle.std.specs.Cmp.Lexicographic.{slice_cmp}
use Rattle.pg_map.specs.PageStrings.{string_key}
use Rattle.pg_directory.specs.declared.entries.EntryAt.{EntryAt}
use Rattle.pg_directory.specs.declared.placing.KeyPlace.{KeyPlace}

-- a key, and the place of its entry
abbrev pub KeyedPlace : Type 0
KeyedPlace = List ℕ × EntryAt

abbrev pub keyed_places : List KeyPlace → List KeyedPlace
keyed_places ks = map {B = List ℕ × EntryAt} (λ (k : KeyPlace). (k.key.items, k.at)) ks

-- the keys that are kept, and the places
abbrev pub keys_kept : List KeyPlace → List (List ℕ)
keys_kept ks = map (λ (k : KeyPlace). k.key.items) ks

abbrev pub places_kept : List KeyPlace → List EntryAt
places_kept ks = map (λ (k : KeyPlace). k.at) ks

-- places, each with its key
abbrev pub with_keys : (EntryAt → List ℕ) → List EntryAt → List KeyedPlace
with_keys key es = map {B = List ℕ × EntryAt} (λ (e : EntryAt). (key e, e)) es

-- the key of the string at a place, among those of its page
abbrev pub key_on : List (List ℕ) → EntryAt → List ℕ
key_on ss e = string_key (get_or ss e.slot [])

-- each key is below the next one
abbrev pub rise_in_turn : List (List ℕ) → Bool
rise_in_turn [] = true
rise_in_turn (k ∷ []) = true
rise_in_turn (k ∷ l ∷ ks) = is_lt (slice_cmp nat_cmp k l) && rise_in_turn (l ∷ ks)

-- ---- computed examples
in_order : rise_in_turn (codes "a" ∷ codes "ab" ∷ codes "b" ∷ []) ≡ true
in_order = refl

one_twice : rise_in_turn (codes "a" ∷ codes "b" ∷ codes "b" ∷ []) ≡ false
one_twice = refl
