-- The entries of a map in memory, seen as lists of bytes.
use Rattle.std.specs.Prelude.{ℕ, List, map, Vec, ◌≡◌, [], ◌∷◌, refl}
use Rattle.std.specs.declared.alloc.Global.{Global}
use Rattle.std.specs.FinMap.{from_sorted, code}
use Rattle.std.specs.Coded.{Coded, coded_ℕ, coded_list}
use Rattle.ct_keep.specs.declared.entry_keys.EntryKey.{EntryKey}
use Rattle.ct_keep.specs.EntryKeys.{key_bytes}
use Rattle.ct_keep.specs.Content.{Content}

abbrev pub HeldEntry : Type 0
HeldEntry = EntryKey × Vec ℕ Global

-- keys and values
abbrev pub pairs : List HeldEntry → List (List ℕ × List ℕ)
pairs es = map (λ e. (key_bytes e.0, e.1.items)) es

abbrev pub content_of : List HeldEntry → Content
content_of es = from_sorted (pairs es)

abbrev pub content_code : Coded Content
content_code = code (coded_list coded_ℕ) (coded_list coded_ℕ)

-- computed example: one entry of a map in memory
one_pair : (key : EntryKey) (value : Vec ℕ Global) → pairs ((key, value) ∷ []) ≡ (key_bytes key, value.items) ∷ []
one_pair key value = refl
