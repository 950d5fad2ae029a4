-- How many entries stand under an owner.
use Rattle.std.specs.Prelude.{◌≡◌, ℕ, ◌+◌, ◌-◌, nat_lt, List, [], ◌∷◌, length, filter, take, Option, Some, None, unwrap_or, refl}
use Rattle.std.specs.Bool.{if◌then◌else◌}
use Rattle.std.specs.Ordering.{nat_cmp, is_lt}
use Rattle.std.specs.Cmp.Lexicographic.{slice_cmp}
use Rattle.std.specs.FinMap.{FinMap, get, entries, from_sorted, entries-from_sorted}
use Rattle.std.proofs.Common.{ap, ◌∙◌}
use Rattle.ct_keep.specs.Content.{Content, begins_with}
use Rattle.ct_keep.specs.laws.Content.{same}
use Rattle.ct_keep.specs.Tail.{cut, tail}
use Rattle.ct_keep.specs.laws.Tail.{entries-tail}

-- how many entries have a key that begins with the prefix and is longer
abbrev pub count_under : List ℕ → Content → ℕ
count_under prefix m = length (entries (tail prefix m))

-- What the keys of a kind and an owner begin with: the byte of the kind, the length of the owner's name in one byte, and the name.
pub record IsOwner (prefix : List ℕ) : Type 0 where
  pub kind : ℕ
  pub name : List ℕ
  pub is : prefix ≡ kind ∷ length name ∷ name

-- the prefix of a key's kind and owner, where something follows it
abbrev pub owner_prefix : List ℕ → Option (List ℕ)
owner_prefix [] = None
owner_prefix (kind ∷ []) = None
owner_prefix (kind ∷ n ∷ rest) = if nat_lt n (length rest) then Some (kind ∷ n ∷ take n rest) else None

-- ---- the counts that are kept

-- 1 where this is the prefix of the key's owner, and else 0
abbrev pub owner_count : List ℕ → Option (List ℕ) → ℕ
owner_count prefix None = 0
owner_count prefix (Some owner) = if same prefix owner then 1 else 0

-- how much an entry of this key counts under a prefix
abbrev pub key_count : List ℕ → List ℕ → ℕ
key_count prefix key = owner_count prefix (owner_prefix key)

-- counts by the prefixes of owners
abbrev pub PrefixCounts : Type 0
PrefixCounts = FinMap (slice_cmp nat_cmp) ℕ

-- the count of an owner; 0 where none is kept
abbrev pub prefix_count : List ℕ → PrefixCounts → ℕ
prefix_count prefix counts = unwrap_or (get counts prefix) 0

-- They are those of a content.
pub record AreCounts (m : Content) (counts : PrefixCounts) : Type 0 where
  pub each : (prefix : List ℕ) → IsOwner prefix → prefix_count prefix counts ≡ count_under prefix m

-- An entry of this key came.
pub record CountsMore (key : List ℕ) (old new : PrefixCounts) : Type 0 where
  pub each : (prefix : List ℕ) → prefix_count prefix new ≡ prefix_count prefix old + key_count prefix key

-- An entry of this key went.
pub record CountsLess (key : List ℕ) (old new : PrefixCounts) : Type 0 where
  pub each : (prefix : List ℕ) → prefix_count prefix new ≡ prefix_count prefix old - key_count prefix key

-- computed examples: of the kinds 2 and 3, an owner `t` of two entries and one of one, whose own entry doesn't count
abbrev four_entries : List (List ℕ × List ℕ)
four_entries = (2 ∷ 1 ∷ 0x74 ∷ 7 ∷ [], []) ∷ (2 ∷ 1 ∷ 0x74 ∷ 8 ∷ 0 ∷ [], []) ∷ (3 ∷ 1 ∷ 0x74 ∷ [], []) ∷ (3 ∷ 1 ∷ 0x74 ∷ 7 ∷ [], []) ∷ []

-- of entries in order, those under a prefix of three bytes
abbrev three_bytes_under : List ℕ → List (List ℕ × List ℕ) → ℕ
three_bytes_under prefix es = length (cut 3 (filter (λ e. begins_with prefix e.0) (filter (λ e. is_lt (slice_cmp nat_cmp prefix e.0)) es)))

two_of_kind_two : count_under (2 ∷ 1 ∷ 0x74 ∷ []) (from_sorted four_entries) ≡ 2
two_of_kind_two = ap length (entries-tail (2 ∷ 1 ∷ 0x74 ∷ []) (from_sorted four_entries)) ∙ ap (three_bytes_under (2 ∷ 1 ∷ 0x74 ∷ [])) (entries-from_sorted (slice_cmp nat_cmp) four_entries tt)

one_of_kind_three : count_under (3 ∷ 1 ∷ 0x74 ∷ []) (from_sorted four_entries) ≡ 1
one_of_kind_three = ap length (entries-tail (3 ∷ 1 ∷ 0x74 ∷ []) (from_sorted four_entries)) ∙ ap (three_bytes_under (3 ∷ 1 ∷ 0x74 ∷ [])) (entries-from_sorted (slice_cmp nat_cmp) four_entries tt)

none_of_kind_four : count_under (4 ∷ 1 ∷ 0x74 ∷ []) (from_sorted four_entries) ≡ 0
none_of_kind_four = ap length (entries-tail (4 ∷ 1 ∷ 0x74 ∷ []) (from_sorted four_entries)) ∙ ap (three_bytes_under (4 ∷ 1 ∷ 0x74 ∷ [])) (entries-from_sorted (slice_cmp nat_cmp) four_entries tt)

its_prefix : owner_prefix (2 ∷ 1 ∷ 0x74 ∷ 8 ∷ 0 ∷ []) ≡ Some (2 ∷ 1 ∷ 0x74 ∷ [])
its_prefix = refl

nothing_follows : owner_prefix (3 ∷ 1 ∷ 0x74 ∷ []) ≡ None
nothing_follows = refl

name_cut_short : owner_prefix (3 ∷ 2 ∷ 0x74 ∷ []) ≡ None
name_cut_short = refl

counts_under_its_owner : key_count (2 ∷ 1 ∷ 0x74 ∷ []) (2 ∷ 1 ∷ 0x74 ∷ 8 ∷ 0 ∷ []) ≡ 1
counts_under_its_owner = refl

counts_under_no_other : key_count (3 ∷ 1 ∷ 0x74 ∷ []) (2 ∷ 1 ∷ 0x74 ∷ 8 ∷ 0 ∷ []) ≡ 0
counts_under_no_other = refl

is_an_owner : IsOwner (2 ∷ 1 ∷ 0x74 ∷ [])
is_an_owner = record { kind = 2; name = 0x74 ∷ []; is = refl }
