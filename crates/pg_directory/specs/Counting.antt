-- All places of entries on the pages of a store.
use Rattle.std.specs.Prelude.{◌≡◌, ℕ, zero, suc, List, [], ◌∷◌, ◌++◌, length, codes, refl}
use Rattle.pg_map.specs.Kinds.{Slotted, strings_of}
use Rattle.pg_directory.specs.declared.entries.EntryAt.{EntryAt}
use Rattle.pg_directory.specs.Trees.{StorePage, Plain, Directory, kind_of}

-- the places of the first n strings of a page
abbrev pub slots_on : ℕ → ℕ → List EntryAt
slots_on page zero = []
slots_on page (suc n) = slots_on page n ++ record { page = page; slot = n } ∷ []

-- the places of all strings of pages, of which the first has this number
abbrev pub places_from : ℕ → List StorePage → List EntryAt
places_from i [] = []
places_from i (p ∷ ps) = slots_on i (length (strings_of (kind_of p ∷ []))) ++ places_from (suc i) ps

-- the number of a page, if it is one of a directory
abbrev pub one_number : StorePage → ℕ → List ℕ
one_number (Plain k) i = []
one_number (Directory d) i = i ∷ []

-- the numbers of the pages of a directory, of pages of which the first has this number
abbrev pub directory_numbers : ℕ → List StorePage → List ℕ
directory_numbers i [] = []
directory_numbers i (p ∷ ps) = one_number p i ++ directory_numbers (suc i) ps

-- ---- computed example: two strings on page 4
two_on_a_page : places_from 4 (Plain (Slotted (codes "a" ∷ codes "b" ∷ [])) ∷ []) ≡ record { page = 4; slot = 0 } ∷ record { page = 4; slot = 1 } ∷ []
two_on_a_page = refl
