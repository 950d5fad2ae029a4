-- What scans list: the entries of a finite map, after a prefix, in the order of its keys.
use Rattle.std.specs.Prelude.{ℕ, ℤ, pos, negsuc, ◌-◌, ◌^◌, ◌≡◌, ◌==◌, nat_lt, List, [], ◌∷◌, ◌++◌, length, filter, Option, Some, None, codes, refl}
use Rattle.std.specs.Bool.{if◌then◌else◌}
use Rattle.std.specs.Int.{from_be_bytes, w64}
use Rattle.std.specs.List.{filter_map}
use Rattle.std.specs.Option.{option_map, option_and_then}
use Rattle.std.specs.Ordering.{nat_cmp, int_cmp, is_lt}
use Rattle.std.specs.declared.cmp.Ordering.{Ordering}
use Rattle.std.specs.declared.cmp.Ordering.TheVariants.{Less}
use Rattle.std.specs.Cmp.Lexicographic.{slice_cmp}
use Rattle.std.specs.FinMap.{FinMap, entries, from_entries}
use Rattle.ct_bytes.specs.RowKeys.{row_bytes}
use Rattle.ct_base.specs.Names.{kept_name}
use Rattle.ct_base.specs.declared.numbers.RowKey.{RowKey}
use Rattle.ct_keep.specs.Content.{Content, entries_above, first_entry}
use Rattle.ct_keep.specs.Tail.{tail}
use Rattle.ct_entry.specs.declared.kinds.Kind.{Kind}
use Rattle.ct_entry.specs.Kinds.{code}
use Rattle.ct_entry.specs.Keys.{counted_bytes, prefix_of, row_part}
use Rattle.ct_entry.specs.Maps.{Names}

-- ---- the entries of a map

-- the entries that have a value by g, in the same order, each under the rest that its key spells
abbrev pub entries_where : {K X : Type 0} → (K → List ℕ) → (X → Option (List ℕ)) → List (K × X) → List (List ℕ × List ℕ)
entries_where part g es = filter_map (λ e. option_map (λ v. (part e.0, v)) (g e.1)) es

-- the keys that have a value by g, in order
abbrev pub keys_where : {K X : Type 0} → (X → Option (List ℕ)) → List (K × X) → List K
keys_where g es = filter_map (λ e. option_map (λ _. e.0) (g e.1)) es

-- an owner's entries of a kind whose rests begin with a prefix and are longer: what stands after it, and the value
abbrev pub owner_entries : Kind → List ℕ → List ℕ → Content → List (List ℕ × List ℕ)
owner_entries kind owner prefix m = entries (tail (prefix_of kind owner ++ prefix) m)

-- ---- row keys

-- the number whose sign bit was turned
abbrev pub sign_turned_back : ℕ → ℤ
sign_turned_back n = if nat_lt n (2 ^ 63) then negsuc (2 ^ 63 - 1 - n) else pos (n - 2 ^ 63)

-- the row key that a rest spells; none where it hasn't 8 bytes
abbrev pub row_of : List ℕ → Option ℤ
row_of bytes = if length bytes == 8 then Some (sign_turned_back (from_be_bytes w64 bytes)) else None

-- the row keys among the rests of entries, in their order
abbrev pub rows_of : List (List ℕ × List ℕ) → List ℤ
rows_of es = filter_map (λ e. row_of e.0) es

-- the row keys of an owner's entries of a kind, in order
abbrev pub rows_under : Kind → List ℕ → Content → List ℤ
rows_under kind owner m = rows_of (entries (tail (prefix_of kind owner) m))

-- the first of a list, if there is one
abbrev pub first_of : {X : Type 0} → List X → Option X
first_of [] = None
first_of (x ∷ xs) = Some x

-- the rest after which a search begins: that of a row, or none
abbrev pub place_after : Option ℤ → List ℕ
place_after None = []
place_after (Some r) = row_part r

abbrev pub number_of : Option RowKey → Option ℤ
number_of after = option_map (λ r. r.0) after

abbrev pub start_after : Option RowKey → List ℕ
start_after after = place_after (number_of after)

-- the first entry under a prefix that stands after a row key, or the first of all: the rest of its key, and its value
abbrev pub entry_after : Option ℤ → List ℕ → Content → Option (List ℕ × List ℕ)
entry_after after prefix m = first_entry (entries_above (place_after after) (tail prefix m))

-- the row key of the first of an owner's entries of a kind after that of a row, or of the first of all; none where that entry's rest hasn't 8 bytes
abbrev pub row_after : Option ℤ → Kind → List ℕ → Content → Option ℤ
row_after after kind owner m = option_and_then (λ e. row_of e.0) (entry_after after (prefix_of kind owner) m)

-- those above a row key, or all
abbrev pub rows_above : Option ℤ → List ℤ → List ℤ
rows_above None rows = rows
rows_above (Some r) rows = filter (λ s. is_lt (int_cmp r s)) rows

-- ---- owners

-- the name that a rest spells: its length in one byte, and its bytes; none where it doesn't
abbrev pub owner_of : List ℕ → Option (List ℕ)
owner_of [] = None
owner_of (n ∷ name) = if length name == n then kept_name name else None

-- the owners of a kind whose keys have no rest, the shorter first, and those of a length in the order of their bytes
abbrev pub owners_of : List (List ℕ × List ℕ) → List (List ℕ)
owners_of es = filter_map (λ e. owner_of e.0) es

abbrev pub owners_under : Kind → Content → List (List ℕ)
owners_under kind m = owners_of (entries (tail (code kind ∷ []) m))

-- the order in which a scan finds names
abbrev pub key_order : List ℕ → List ℕ → Ordering
key_order a b = slice_cmp nat_cmp (counted_bytes a) (counted_bytes b)

-- a map of names in the order in which a scan finds them
abbrev pub in_key_order : {X : Type 0} → Names X → FinMap key_order X
in_key_order m = from_entries (entries m)

-- computed examples
a_row : row_of (row_bytes (pos 7)) ≡ Some (pos 7)
unfolding row_bytes
a_row = refl

a_row_below : row_of (row_bytes (negsuc 4)) ≡ Some (negsuc 4)
unfolding row_bytes
a_row_below = refl

no_row : row_of (codes "seven") ≡ None
no_row = refl

an_owner : owner_of (counted_bytes (codes "docs")) ≡ Some (codes "docs")
an_owner = refl

shorter_first : key_order (codes "z") (codes "ab") ≡ Less
shorter_first = refl
