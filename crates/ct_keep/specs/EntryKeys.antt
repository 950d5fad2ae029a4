-- Keys of entries in the order of their bytes, and the entries of a map that is keyed by them.
use Rattle.std.specs.Prelude.{◌≡◌, ◌≤◌, ℕ, List, [], ◌∷◌, Option, Vec, length, refl}
use Rattle.std.specs.Vec.{vec_capacity}
use Rattle.std.specs.declared.alloc.Global.{Global}
use Rattle.std.specs.declared.cmp.Ordering.{Ordering}
use Rattle.std.specs.Ordering.{nat_cmp}
use Rattle.std.specs.Cmp.Lexicographic.{slice_cmp}
use Rattle.std.specs.Map.{lookup}
use Rattle.std.specs.BTreeMap.{BTreeMap, IsOrdered, is_at}
use Rattle.ct_keep.specs.declared.entry_keys.EntryKey.{EntryKey}

-- its bytes
abbrev pub key_bytes : EntryKey → List ℕ
key_bytes k = k.bytes.items

-- how many bytes a key may have that it becomes without taking memory
abbrev pub key_room : EntryKey → ℕ
key_room k = vec_capacity k.bytes

-- the order of the bytes
abbrev pub entry_key_order : EntryKey → EntryKey → Ordering
entry_key_order x y = slice_cmp nat_cmp (key_bytes x) (key_bytes y)

module _ {V : Type 0} where
  -- the value at a key's bytes
  abbrev pub found_at : List ℕ → List (EntryKey × V) → Option V
  found_at key es = lookup (is_at (λ x. slice_cmp nat_cmp key (key_bytes x))) es

  -- No key has more bytes.
  abbrev pub AllFit : ℕ → List (EntryKey × V) → Type 0
  AllFit room [] = Unit {0}
  AllFit room (e ∷ es) = (length (key_bytes e.0) ≤ room) × AllFit room es

  -- The keys of a map stand in their order, and there is room for each of them.
  pub record AreKeyed (entries : BTreeMap EntryKey V) (room : ℕ) : Type 0 where
    pub ordered : IsOrdered entry_key_order entries
    pub fits : AllFit room entries.entries

-- ---- computed examples: of no entries each fits; a key of two bytes fits where there is room for three
none_fits : AllFit {V = ℕ} 0 []
none_fits = tt

key_of : Vec ℕ Global → EntryKey
key_of v = record { bytes = v }

bytes_are : (v : Vec ℕ Global) → key_bytes (key_of v) ≡ v.items
unfolding key_of
bytes_are v = refl
