-- The free pages of a store.
use Rattle.std.specs.Prelude.{◌≡◌, ℕ, zero, suc, List, [], ◌∷◌, ◌++◌, get_or, refl}
use Rattle.pg_map.specs.Kinds.{Free, Slotted, Long}
use Rattle.pg_directory.specs.Pages.{DirectoryPage}
use Rattle.pg_directory.specs.Trees.{StorePage, Plain, Directory}

-- the place of a page, if it is free and of no directory
abbrev pub one_unused : StorePage → ℕ → List ℕ
one_unused (Plain Free) at = at ∷ []
one_unused (Plain (Slotted ss)) at = []
one_unused (Plain (Long next bytes)) at = []
one_unused (Directory page) at = []

-- the places of such pages among the first n
abbrev pub unused_to : List StorePage → ℕ → List ℕ
unused_to pages zero = []
unused_to pages (suc n) = unused_to pages n ++ one_unused (get_or pages n (Plain Free)) n

-- ---- computed example: of three pages the first one is free, and the second one is of a directory
the_first_one : (d : DirectoryPage) → unused_to (Plain Free ∷ Directory d ∷ Plain (Slotted []) ∷ []) 3 ≡ 0 ∷ []
the_first_one d = refl
