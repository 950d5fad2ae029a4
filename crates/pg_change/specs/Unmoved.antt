-- Keys that stand where they stood before a batch, told by the bytes of the pages before it.
use Rattle.std.specs.Prelude.{◌≡◌, ◌⊎◌, ℕ, ◌<◌, List, [], ◌∷◌, length, get_or, Option, Some, None, codes, refl}
use Rattle.std.specs.FinMap.{insert}
use Rattle.std.specs.List.{Contains}
use Rattle.std.proofs.Common.{arith}
use Rattle.pg_map.specs.Kinds.{Kind}
use Rattle.pg_map.specs.PageStrings.{string_key}
use Rattle.pg_page.specs.Pages.{number_at, page_bytes, string_at}
use Rattle.pg_directory.specs.declared.entries.EntryAt.{EntryAt}
use Rattle.pg_directory.specs.Trees.{StorePage, key_at, HasString}
use Rattle.pg_leaves.specs.Editing.{KeyEdit}
use Rattle.pg_change.specs.KeyEdits.{HasStringOn, key_on}
use Rattle.pg_change.specs.NotedEdits.{EditMap, with_edits, slot_edit, slot_edits, pages_edits}

-- The bytes are those of a page of entries, of which the one in this slot has this key.
pub record HasKeyIn (bytes : List ℕ) (slot : ℕ) (key : List ℕ) : Type 0 where
  pub kind : get_or bytes 0 0 ≡ 1
  pub less : slot < number_at bytes 2
  pub own : string_key (string_at bytes slot) ≡ key

-- the same of a page that may be none
abbrev pub HadKeyIn : Option (List ℕ) → ℕ → List ℕ → Type 0
HadKeyIn None slot key = ⊥
HadKeyIn (Some bytes) slot key = HasKeyIn bytes slot key

-- This key stood at the place.
abbrev pub HadKeyAt : List StorePage → EntryAt → List ℕ → Type 0
HadKeyAt pages e key = HasString pages e × (key_at pages e ≡ key)

-- ---- what is noted

-- The place of a key was noted, or the key stood there before and nothing was noted.
abbrev pub IsNotedUnlessThere : Option (List ℕ) → EntryAt → List ℕ → EditMap → EditMap → Type 0
IsNotedUnlessThere page at key old new = (new ≡ insert old key (Some at)) ⊎ ((new ≡ old) × HadKeyIn page at.slot key)

-- Of the first strings of a page the places were noted, but for those that stood there before.
pub record AreSlotsNoted (page : Option (List ℕ)) (number : ℕ) (ss : List (List ℕ)) (count : ℕ) (old new : EditMap) : Type 0 where
  pub noted : List KeyEdit
  pub is : new ≡ with_edits noted old
  pub from : (u : KeyEdit) → Contains noted u → Contains (slot_edits number ss count) u
  pub all : (slot : ℕ) → slot < count → Contains noted (slot_edit number ss slot) ⊎ HadKeyIn page slot (string_key (get_or ss slot []))

-- Of all strings of the page of a number the places were noted, but for those that stood there on the pages before.
pub record IsPageNoted (pages : List StorePage) (number : ℕ) (ss : List (List ℕ)) (old new : EditMap) : Type 0 where
  pub noted : List KeyEdit
  pub is : new ≡ with_edits noted old
  pub from : (u : KeyEdit) → Contains noted u → Contains (slot_edits number ss (length ss)) u
  pub all : (slot : ℕ) → slot < length ss → Contains noted (slot_edit number ss slot) ⊎ HadKeyAt pages (record { page = number; slot = slot }) (string_key (get_or ss slot []))

-- Of the strings of some pages the places were noted, but for those that stood there on the pages before.
pub record ArePagesNoted (pages : List StorePage) (kinds : List Kind) (numbers : List ℕ) (old new : EditMap) : Type 0 where
  pub noted : List KeyEdit
  pub is : new ≡ with_edits noted old
  pub from : (u : KeyEdit) → Contains noted u → Contains (pages_edits kinds numbers) u
  pub all : (e : EntryAt) → Contains numbers e.page → HasStringOn kinds e → Contains noted (key_on kinds e, Some e) ⊎ HadKeyAt pages e (key_on kinds e)

-- ---- computed example: the second string of a page
abbrev two_strings : List ℕ
two_strings = page_bytes ((0 ∷ 0 ∷ 1 ∷ codes "kv") ∷ (0 ∷ 0 ∷ 2 ∷ codes "abw") ∷ [])

has_second : HasKeyIn two_strings 1 (codes "ab")
has_second = record { kind = refl; less = omega arith; own = refl }
