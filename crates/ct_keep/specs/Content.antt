-- What a keeper holds, and what the changes of a batch make of it.
use Rattle.std.specs.Prelude.{ℕ, ◌+◌, ◌==◌, ◌≤◌, max, sum_by, Bool, true, false, ◌&&◌, List, [], ◌∷◌, length, filter, Option, Some, None, ◌≡◌, codes, refl}
use Rattle.std.specs.Ordering.{nat_cmp, is_lt}
use Rattle.std.specs.Cmp.Lexicographic.{slice_cmp}
use Rattle.std.specs.FinMap.{FinMap, insert, remove, entries}

-- a finite map from keys to values, both lists of bytes, in the order of the keys' bytes
abbrev pub Content : Type 0
Content = FinMap (slice_cmp nat_cmp) (List ℕ)

-- a key, and the value that it is to have, or None where it is to go
abbrev pub Change : Type 0
Change = List ℕ × Option (List ℕ)

abbrev pub set_to : List ℕ → Option (List ℕ) → Content → Content
set_to key (Some value) m = insert m key value
set_to key None m = remove m key

-- the content after some changes, the first of them first: the last change on a key counts
abbrev pub after : List Change → Content → Content
after [] m = m
after (w ∷ ws) m = after ws (set_to w.0 w.1 m)

-- the entries whose key is greater than the key, in order
abbrev pub entries_above : List ℕ → Content → List (List ℕ × List ℕ)
entries_above key m = filter (λ e. is_lt (slice_cmp nat_cmp key e.0)) (entries m)

-- the first entry, if there is one
abbrev pub first_entry : List (List ℕ × List ℕ) → Option (List ℕ × List ℕ)
first_entry [] = None
first_entry (e ∷ es) = Some e

abbrev pub begins_with : List ℕ → List ℕ → Bool
begins_with [] key = true
begins_with (b ∷ bs) [] = false
begins_with (b ∷ bs) (k ∷ ks) = (b == k) && begins_with bs ks

-- the entries whose key begins with the prefix and is longer, in order
abbrev pub entries_under : List ℕ → Content → List (List ℕ × List ℕ)
entries_under prefix m = filter (λ e. begins_with prefix e.0) (entries_above prefix m)

-- what an entry weighs: its bytes, and at least 64
abbrev pub entry_weight : List ℕ × List ℕ → ℕ
entry_weight e = max 64 (length e.0 + length e.1)

abbrev pub weight : Content → ℕ
weight m = sum_by entry_weight (entries m)

-- what an entry weighs that has this value, or is absent
abbrev pub value_weight : List ℕ → Option (List ℕ) → ℕ
value_weight key None = 0
value_weight key (Some value) = entry_weight (key, value)

-- what some changes weigh by themselves
abbrev pub changes_weight : List Change → ℕ
changes_weight [] = 0
changes_weight (w ∷ ws) = value_weight w.0 w.1 + changes_weight ws

-- how many bytes a key has at most, and a value (2 ^ 26), each with its constant of the same name in `src/limits.rt`
abbrev pub key_limit : ℕ
key_limit = 600

abbrev pub value_limit : ℕ
value_limit = 67108864

-- the bounds on an entry, whose key has at least one byte
pub record IsEntry (key value : List ℕ) : Type 0 where
  pub some : 1 ≤ length key
  pub short : length key ≤ key_limit
  pub bounded : length value ≤ value_limit

-- computed examples: an entry weighs its bytes, and at least 64; and a key begins with itself
short_entry : entry_weight (codes "ab", codes "c") ≡ 64
short_entry = refl

begins_itself : begins_with (codes "ab") (codes "ab") ≡ true
begins_itself = refl

begins_otherwise : begins_with (codes "ab") (codes "a") ≡ false
begins_otherwise = refl

first_of_two : first_entry ((codes "a", codes "1") ∷ (codes "b", codes "2") ∷ []) ≡ Some (codes "a", codes "1")
first_of_two = refl

-- an entry of over 64 bytes weighs its bytes, and one that goes weighs nothing
one_weighs : value_weight (codes "0123456789012345678901234567890123456789") (Some (codes "0123456789012345678901234567890123456789")) ≡ 80
one_weighs = refl

two_changes_weigh : changes_weight ((codes "a", Some (codes "x")) ∷ (codes "b", None) ∷ []) ≡ 64
two_changes_weigh = refl
