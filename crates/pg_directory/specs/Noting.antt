-- What is kept of each page while a store is opened, and the long pages that are taken by it.
use Rattle.std.specs.Prelude.{◌≡◌, ℕ, ◌≤◌, Bool, true, false, List, ◌++◌, length, codes, Option, None, Some, refl}
use Rattle.pg_map.specs.ChainReading.{taken_times, TakesPage, HasValue, MayTake}
use Rattle.pg_map.specs.Holding.{kind_of_page, IsChain}
use Rattle.pg_map.specs.Kinds.{Kind, Free, Slotted, Long}
use Rattle.pg_directory.specs.declared.noting.PageNote.{PageNote}
use Rattle.pg_directory.specs.declared.noting.PageNote.TheVariants.{Free as FreeNote, Slotted as SlottedNote, Long as LongNote, Directory as DirectoryNote}
use Rattle.pg_directory.specs.Trees.{StorePage, Plain, Directory, bytes_of_page, IsPage}

abbrev pub note_of : StorePage → PageNote
note_of (Plain Free) = FreeNote
note_of (Plain (Slotted ss)) = SlottedNote (length ss)
note_of (Plain (Long next bytes)) = LongNote next (length bytes)
note_of (Directory page) = DirectoryNote

-- the next page of a long page, and how many bytes it has, by its note
abbrev pub long_in : PageNote → Option (ℕ × ℕ)
long_in FreeNote = None
long_in (SlottedNote strings) = None
long_in (LongNote next used) = Some (next, used)
long_in DirectoryNote = None

-- the note of the page that has these bytes, if one has
abbrev pub IsNoteOr : Option PageNote → List ℕ → Type 0
IsNoteOr (Some note) bytes = (p : StorePage) × IsPage p × (bytes ≡ bytes_of_page p) × (note ≡ note_of p)
IsNoteOr None bytes = (p : StorePage) → IsPage p → bytes ≡ bytes_of_page p → ⊥

-- A long page that was not taken is taken: the next one, and how many bytes it has. Or there is no such page.
abbrev pub IsNotedOr : Option (ℕ × ℕ) → List Kind → ℕ → List Bool → List Bool → Type 0
IsNotedOr (Some found) kinds page old new = (bytes : List ℕ) × (length bytes ≡ found.1) × ((before : List ℕ) → TakesPage kinds page found.0 old new before (before ++ bytes))
IsNotedOr None kinds page old new = (next : ℕ) (bytes : List ℕ) → 3 ≤ page → kind_of_page kinds page ≡ Long next bytes → taken_times old page ≡ 0 → ⊥

-- Exactly where it is true, a value of so many bytes stands on long pages from this one on that were not taken; they are taken then.
abbrev pub IsChainOr : Bool → List Kind → List Bool → List Bool → ℕ → ℕ → Type 0
IsChainOr true kinds old new first count = (value : List ℕ) × HasValue kinds old new first count value
IsChainOr false kinds old new first count = (pages value : List ℕ) → IsChain kinds first pages value → length value ≡ count → MayTake old pages → ⊥

-- ---- computed example
a_long_page : note_of (Plain (Long 7 (codes "value"))) ≡ LongNote 7 5
a_long_page = refl
