-- What is read of a level of a directory, and when there is none.
use Rattle.std.specs.Prelude.{◌≡◌, ℕ, ◌≤◌, Bool, true, false, List, [], ◌∷◌, ◌++◌, length, get_or, Option, None, Some, refl}
use Rattle.pg_directory.specs.declared.entries.EntryAt.{EntryAt}
use Rattle.pg_directory.specs.declared.entries.Child.{Child}
use Rattle.pg_directory.specs.Pages.{DirectoryPage, Inner, directory_bytes, IsDirectoryPage, named, level_of, no_entry}
use Rattle.pg_directory.specs.Trees.{StorePage, Directory, page_at, first_of}
use Rattle.pg_directory.specs.Telling.{IsTold}
use Rattle.pg_directory.specs.Levels.{leasts_of, AreLeaves, IsLevel, LeadsTo}

-- Exactly where it is true, the first of some entries is this one.
abbrev pub FirstIs : Bool → List EntryAt → EntryAt → Type 0
FirstIs true es e = first_of es ≡ Some e
FirstIs false es e = first_of es ≡ Some e → ⊥

-- Exactly where it is true, the bytes are those of a page of this level; then what it names was appended.
abbrev pub TakesItems : Bool → List ℕ → ℕ → List Child → List Child → Type 0
TakesItems true page level old new = (cs : List Child) × IsTold page (Inner level cs) × (new ≡ old ++ cs)
TakesItems false page level old new = (cs : List Child) → IsDirectoryPage (Inner level cs) → page ≡ directory_bytes (Inner level cs) → ⊥

-- A child is a page of this level, of which it names the least entry.
abbrev pub IsChildOf : List StorePage → ℕ → Child → List Child → Type 0
IsChildOf pages level c own = (3 ≤ c.page) × (page_at pages c.page ≡ Directory (Inner level own)) × (first_of (leasts_of own) ≡ Some c.least)

-- Exactly where it is true, the child is such a page; then what it names was appended.
abbrev pub TakesChild : Bool → List StorePage → ℕ → Child → List Child → List Child → Type 0
TakesChild true pages level c old new = (own : List Child) × IsChildOf pages level c own × (new ≡ old ++ own)
TakesChild false pages level c old new = (own : List Child) → IsChildOf pages level c own → ⊥

-- What the pages of a level name; or they are no pages of this level that name at most so many.
abbrev pub IsLevelOr : Option (List Child) → List StorePage → ℕ → List Child → ℕ → Type 0
IsLevelOr (Some ds) pages level cs limit = IsLevel pages level cs ds
IsLevelOr None pages level cs limit = (ds : List Child) → IsLevel pages level cs ds → length ds ≤ limit → ⊥

-- The numbers of the pages from these on that are so far above the leaves, and the leaves; or they don't lead to at most so many of both.
abbrev pub LedOr : Option (List ℕ × List Child) → List StorePage → ℕ → List Child → ℕ → Type 0
LedOr (Some found) pages level cs limit = LeadsTo pages level cs found.0 found.1
LedOr None pages level cs limit = (inner : List ℕ) (leaves : List Child) → LeadsTo pages level cs inner leaves → length inner ≤ limit → length leaves ≤ limit → ⊥

-- The page at the top of a directory, with the first entry that the page of these bytes names.
abbrev pub IsTopOf : List Child → ℕ → List ℕ → Type 0
IsTopOf tops top page = (least : EntryAt) × (tops ≡ record { page = top; least = least } ∷ [])
    × ((d : DirectoryPage) → IsDirectoryPage d → page ≡ directory_bytes d → least ≡ get_or (named d) 0 no_entry)

-- The numbers of the pages above the leaves, and the leaves, as the page at the top says; or there is no directory from this page on with at most so many of both.
abbrev pub LevelsOr : Option (List ℕ × List Child) → List StorePage → ℕ → ℕ → Type 0
LevelsOr (Some found) pages top limit =
    (level : ℕ) × (least : EntryAt) × LeadsTo pages level (record { page = top; least = least } ∷ []) found.0 found.1
    × ((d : DirectoryPage) → page_at pages top ≡ Directory d → (level ≡ level_of d) × (least ≡ get_or (named d) 0 no_entry))
LevelsOr None pages top limit = (level : ℕ) (least : EntryAt) (inner : List ℕ) (leaves : List Child) (es : List EntryAt) → LeadsTo pages level (record { page = top; least = least } ∷ []) inner leaves
    → AreLeaves pages leaves es → length inner ≤ limit → length leaves ≤ limit → ⊥

-- ---- computed example: no pages name none
none_named : (pages : List StorePage) → IsLevelOr (Some []) pages 1 [] 0
none_named pages = refl
