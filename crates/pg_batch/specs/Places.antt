-- Where the entries of some keys stand.
use Rattle.std.specs.Prelude.{◌≡◌, ◌⊎◌, ℕ, List, [], ◌∷◌, Option, Some, None, codes, refl}
use Rattle.ct_keep.specs.Content.{Change}
use Rattle.pg_map.specs.Kinds.{Slotted}
use Rattle.pg_directory.specs.declared.entries.EntryAt.{EntryAt}
use Rattle.pg_directory.specs.Trees.{StorePage, Plain, key_at, HasString, IsDirectory}

-- The entry of a key stands at this place, or no entry has the key.
abbrev pub IsKeyPlace : List StorePage → List ℕ → Option EntryAt → Type 0
IsKeyPlace pages key None = (e : EntryAt) → HasString pages e → key_at pages e ≡ key → ⊥
IsKeyPlace pages key (Some e) = HasString pages e × (key_at pages e ≡ key)

-- The same of the key of each change, in turn.
abbrev pub AreKeyPlaces : List StorePage → List Change → List (Option EntryAt) → Type 0
AreKeyPlaces pages [] [] = Unit {0}
AreKeyPlaces pages [] (o ∷ os) = ⊥
AreKeyPlaces pages (w ∷ ws) [] = ⊥
AreKeyPlaces pages (w ∷ ws) (o ∷ os) = IsKeyPlace pages w.0 o × AreKeyPlaces pages ws os

-- Each entry is found from the page of a number on: from the top of a directory of all, or, where the number is 0, there is none.
abbrev pub FindsAll : List StorePage → ℕ → Type 0
FindsAll pages top = ((top ≡ 0) × ((e : EntryAt) → HasString pages e → ⊥)) ⊎ ((es : List EntryAt) × IsDirectory pages top es)

-- ---- computed example: the only entry of a page
abbrev a_page : List StorePage
a_page = Plain (Slotted ((0 ∷ 0 ∷ 1 ∷ codes "kv") ∷ [])) ∷ []

abbrev the_entry : EntryAt
the_entry = record { page = 3; slot = 0 }

the_place : AreKeyPlaces a_page ((codes "k", None) ∷ []) (Some the_entry ∷ []) ≡ ((HasString a_page the_entry × (codes "k" ≡ codes "k")) × Unit {0})
the_place = refl
