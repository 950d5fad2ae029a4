-- What a content has under a prefix of its keys.
use Rattle.std.specs.Prelude.{ℕ, List, map, filter, drop, length, Option, Some, None, ◌≡◌, [], ◌∷◌, codes, refl}
use Rattle.std.specs.Bool.{if◌then◌else◌}
use Rattle.std.specs.FinMap.{from_sorted}
use Rattle.ct_keep.specs.Content.{Content, begins_with, entries_above, entries_under}

-- entries without so many first bytes of their keys
abbrev pub cut : ℕ → List (List ℕ × List ℕ) → List (List ℕ × List ℕ)
cut n es = map (λ e. (drop n e.0, e.1)) es

-- The map from the rests of the keys that begin with the prefix and are longer: what stands behind the prefix.
unfoldable pub tail : List ℕ → Content → Content
tail prefix m = from_sorted (cut (length prefix) (entries_under prefix m))

-- the entries above a key whose key begins with the prefix
abbrev pub left_under : List ℕ → List ℕ → Content → List (List ℕ × List ℕ)
left_under prefix key m = filter (λ e. begins_with prefix e.0) (entries_above key m)

-- an entry with the rest of its key, if its key begins with the prefix
abbrev pub rest_under : List ℕ → Option (List ℕ × List ℕ) → Option (List ℕ × List ℕ)
rest_under prefix None = None
rest_under prefix (Some e) = if begins_with prefix e.0 then Some (drop (length prefix) e.0, e.1) else None

-- computed examples: an entry without the first byte of its key, and one whose key doesn't begin with the prefix
cut_by_one : cut 1 ((codes "ab", codes "v") ∷ []) ≡ (codes "b", codes "v") ∷ []
cut_by_one = refl

not_under : rest_under (codes "b") (Some (codes "ab", codes "v")) ≡ None
not_under = refl
