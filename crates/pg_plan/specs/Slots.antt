-- A page without one of its strings, and one without a string of a key.
use Rattle.std.specs.Prelude.{◌≡◌, ◌≢◌, ◌<◌, ◌-◌, ℕ, List, [], ◌∷◌, length, get_or, take, set, codes, refl}
use Rattle.pg_map.specs.Kinds.{StringItem, IsStringItem, item_bytes, key_in_item}

-- the last of them stands in the slot of this number too
abbrev pub with_last_at : ℕ → List (List ℕ) → List (List ℕ)
with_last_at n ss = set ss n (get_or ss (length ss - 1) [])

-- the strings but the one of this number, which the last one has now
abbrev pub without_at : ℕ → List (List ℕ) → List (List ℕ)
without_at n ss = take (length ss - 1) (with_last_at n ss)

-- None of the strings is of an entry of the key.
abbrev pub HasNoKey : List (List ℕ) → List ℕ → Type 0
HasNoKey ss key = (i : ℕ) (item : StringItem) → i < length ss → IsStringItem item → get_or ss i [] ≡ item_bytes item → key_in_item item ≢ key

-- ---- computed examples
without_the_second : without_at 1 (codes "a" ∷ codes "b" ∷ codes "c" ∷ codes "d" ∷ []) ≡ codes "a" ∷ codes "d" ∷ codes "c" ∷ []
without_the_second = refl

without_the_last : without_at 2 (codes "a" ∷ codes "b" ∷ codes "c" ∷ []) ≡ codes "a" ∷ codes "b" ∷ []
without_the_last = refl

without_the_only : without_at 0 (codes "a" ∷ []) ≡ []
without_the_only = refl
