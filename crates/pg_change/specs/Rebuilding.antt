-- The directory after a batch: its leaves under their numbers, and the pages above them.
use Rattle.std.specs.Prelude.{◌≡◌, ◌⊎◌, ◌↔◌, ℕ, ◌+◌, ◌-◌, ◌≤◌, true, false, List, [], ◌∷◌, ◌++◌, length, map, get_or, refl}
use Rattle.std.specs.List.{Contains}
use Rattle.ct_keep.specs.Content.{Content}
use Rattle.pg_map.specs.Done.{IsDone}
use Rattle.pg_map.specs.Holding.{times}
use Rattle.pg_map.specs.Kinds.{Each, Free, Slotted}
use Rattle.pg_directory.specs.declared.directories.Directory.{Directory}
use Rattle.pg_directory.specs.declared.entries.Child.{Child}
use Rattle.pg_directory.specs.declared.entries.EntryAt.{EntryAt}
use Rattle.pg_directory.specs.Building.{above_of, numbers_of}
use Rattle.pg_directory.specs.Layering.{BuildsLevels}
use Rattle.pg_directory.specs.Leaves.{leaf_at, leaf_numbers}
use Rattle.pg_directory.specs.Levels.{pages_of, LeadsTo, HasLevels}
use Rattle.pg_directory.specs.Making.{directory_writes}
use Rattle.pg_directory.specs.Trees.{StorePage, page_at, key_at, one_if_directory, HasString, HasNoDirectory, Rise}
use Rattle.pg_directory.specs.Written.{PageWrite, write_numbers}
use Rattle.pg_directory.specs.laws.Making.{StandOn}
use Rattle.pg_leaves.specs.declared.parting.LeafNow.{LeafNow}
use Rattle.pg_leaves.specs.declared.parting.LeafNow.TheVariants.{Kept, Made}
use Rattle.pg_leaves.specs.declared.placing.Placed.{Placed}
use Rattle.pg_leaves.specs.declared.relisting.Relisted.{Relisted}
use Rattle.pg_leaves.specs.Relisting.{made_count, children_now, written_now}
use Rattle.pg_plan.specs.Drafts.{Drafted, shown}
use Rattle.pg_plan.specs.FreePlaces.{FreePlaces, ListsFree}
use Rattle.pg_change.specs.declared.rebuilding.Rebuilt.{Rebuilt}

-- ---- pages of the directory in a draft

-- The numbers of pages that aren't in memory, each once.
pub record AreAway (d : Drafted) (ns : List ℕ) : Type 0 where
  pub each : (n : ℕ) → 1 ≤ times n ns → (3 ≤ n) × (get_or d.away (n - 3) false ≡ true)
  pub once : (n : ℕ) → times n ns ≤ 1

-- What became of the page at a place, where these were the numbers of the directory's pages, and those are, of which some were taken.

-- It is what it was, and isn't taken.
pub record IsAsItWas (old new : Drafted) (ns ms taken : List ℕ) (at : ℕ) : Type 0 where
  pub kind : get_or new.now at Free ≡ get_or old.now at Free
  pub away : get_or new.away at false ≡ get_or old.away at false
  pub often : times (at + 3) ms ≡ times (at + 3) ns
  pub untaken : times (at + 3) taken ≡ 0
  pub touched : Contains new.touched at ↔ Contains old.touched at

-- It was one of the directory, and is free.
pub record IsGivenBack (old new : Drafted) (ns ms : List ℕ) (at : ℕ) : Type 0 where
  pub was : 1 ≤ times (at + 3) ns
  pub none : times (at + 3) ms ≡ 0
  pub kind : get_or new.now at Free ≡ Free
  pub away : get_or new.away at false ≡ false
  pub touched : Contains new.touched at

-- It was free, or one of the directory, and was taken for the directory.
pub record IsTakenFor (old new : Drafted) (ns ms taken : List ℕ) (at : ℕ) : Type 0 where
  pub was : (get_or old.now at Free ≡ Free) ⊎ (1 ≤ times (at + 3) ns)
  pub is : 1 ≤ times (at + 3) ms
  pub taken_is : 1 ≤ times (at + 3) taken
  pub kind : get_or new.now at Free ≡ Slotted []
  pub away : get_or new.away at false ≡ true
  pub touched : Contains new.touched at

-- Pages of the directory were given back, and pages were taken for it.
pub record GoesOn (old new : Drafted) (ns ms taken : List ℕ) : Type 0 where
  pub grown : length old.now ≤ length new.now
  pub still : (at : ℕ) → Contains old.touched at → Contains new.touched at
  pub each : (at : ℕ) → IsAsItWas old new ns ms taken at ⊎ (IsGivenBack old new ns ms at ⊎ IsTakenFor old new ns ms taken at)

-- The same, and the directory's pages are none that is in memory.
pub record GoesTo (old new : Drafted) (ns ms taken : List ℕ) : Type 0 where
  pub away : AreAway new ms
  pub goes : GoesOn old new ns ms taken

-- The draft holds the map that it held, its free pages are those that are listed, and so many changes of pages were noted at most.
pub record PlansOn (old new : Drafted) (free : FreePlaces) (changes : ℕ) : Type 0 where
  pub listed : ListsFree new.now free.now
  pub done : (m : Content) → IsDone old.now m → IsDone new.now m
  pub touches : length new.touched ≤ length old.touched + changes

-- ---- the leaves under their numbers

-- 1 for a leaf that is made anew, and else 0
abbrev pub one_if_made : LeafNow → ℕ
one_if_made (Kept c) = 0
one_if_made (Made v) = 1

-- Leaves that are made anew got these numbers.
pub record IsPlaced (ls : List LeafNow) (placed : Placed) : Type 0 where
  pub numbers : List ℕ
  pub count : length numbers ≡ made_count ls
  pub children : placed.children.items ≡ children_now ls numbers
  pub written : map leaf_at placed.written.items ≡ written_now ls numbers

-- the numbers of those that are written
abbrev pub placed_numbers : Placed → List ℕ
placed_numbers placed = leaf_numbers (map leaf_at placed.written.items)

-- ---- the pages above the leaves

-- The leaves are what they were, and so are the pages above them.
pub record AboveStays (top : ℕ) (old : Directory) (new : Rebuilt) : Type 0 where
  pub some : 1 ≤ length old.leaves.items
  pub leaves : new.directory.leaves.items ≡ old.leaves.items
  pub inner : new.directory.inner.items ≡ old.inner.items
  pub top_is : new.top ≡ top
  pub none : new.upper.items ≡ []

-- They are made anew.
pub record AboveIsBuilt (new : Rebuilt) : Type 0 where
  pub some : 1 ≤ length new.directory.leaves.items
  pub numbers : List ℕ
  pub top : Child
  pub builds : BuildsLevels new.directory.leaves.items numbers (map above_of new.upper.items) new.directory.inner.items top
  pub top_is : new.top ≡ top.page

-- There is no leaf, and so no directory.
pub record AboveIsNone (new : Rebuilt) : Type 0 where
  pub leaves : new.directory.leaves.items ≡ []
  pub inner : new.directory.inner.items ≡ []
  pub top_is : new.top ≡ 0
  pub none : new.upper.items ≡ []

-- the numbers of those that are written
abbrev pub upper_numbers : Rebuilt → List ℕ
upper_numbers new = numbers_of (map above_of new.upper.items)

abbrev pub IsAbove : ℕ → Directory → Rebuilt → Type 0
IsAbove top old new = AboveStays top old new ⊎ (AboveIsBuilt new ⊎ AboveIsNone new)

-- Of leaves that are placed, and what is above them.
pub record HasAbove (top : ℕ) (old : Directory) (placed : Placed) (new : Rebuilt) : Type 0 where
  pub leaves : new.directory.leaves.items ≡ placed.children.items
  pub written : new.written ≡ placed.written
  pub above : IsAbove top old new

-- ---- the directory

-- the numbers of all its pages
abbrev pub own_numbers : Directory → List ℕ
own_numbers d = d.inner.items ++ pages_of d.leaves.items

-- what is to be written
abbrev pub rebuilt_writes : Rebuilt → List PageWrite
rebuilt_writes new = directory_writes (map leaf_at new.written.items) (map above_of new.upper.items)

-- how many pages are taken at most, for the leaves that are made anew and for the pages above all leaves
abbrev pub pages_taken : Relisted → ℕ
pages_taken relisted = made_count relisted.leaves.items + length relisted.leaves.items

-- how many changes of pages are noted at most
abbrev pub changes_noted : Directory → Relisted → ℕ
changes_noted old relisted = length relisted.gone.items + length old.inner.items + pages_taken relisted

-- The leaves under their numbers, and the pages above them.
pub record IsRebuilt (top : ℕ) (old : Directory) (ls : List LeafNow) (new : Rebuilt) : Type 0 where
  pub numbers : List ℕ
  pub count : length numbers ≡ made_count ls
  pub leaves : new.directory.leaves.items ≡ children_now ls numbers
  pub written : map leaf_at new.written.items ≡ written_now ls numbers
  pub above : IsAbove top old new

-- In the draft the pages that are to be written were taken, each once, and all others of the directory were there.
abbrev pub RebuildsIn : Drafted → Drafted → Directory → Rebuilt → Type 0
RebuildsIn old new was now = GoesTo old new (own_numbers was) (own_numbers now.directory) (write_numbers (rebuilt_writes now))

-- From a page at the top one came to the leaves, if there were any.
abbrev pub WasLed : List StorePage → ℕ → Directory → Type 0
WasLed pages top old = 1 ≤ length old.leaves.items → (level : ℕ) × (least : EntryAt) × LeadsTo pages level (record { page = top; least = least } ∷ []) old.inner.items old.leaves.items

-- On pages where what was written stands under its number, and all other pages of the directory are as they were: each page of it is one
-- of these, once, and these are the places of all strings, in order.
pub record StandsRebuilt (pages next : List StorePage) (new : Rebuilt) (es : List EntryAt) : Type 0 where
  pub stand : StandOn next (rebuilt_writes new)
  pub kept : (i : ℕ) → 1 ≤ times i (own_numbers new.directory) → times i (write_numbers (rebuilt_writes new)) ≡ 0 → page_at next i ≡ page_at pages i
  pub once : (i : ℕ) → 3 ≤ i → times i (own_numbers new.directory) ≡ one_if_directory (page_at next i)
  pub strings : Each (HasString next) es
  pub all : (e : EntryAt) → HasString next e → Contains es e
  pub order : Rise (key_at next) es

-- There is no directory, and no entry.
pub record IsWithoutLeaves (next : List StorePage) (new : Rebuilt) (es : List EntryAt) : Type 0 where
  pub none : HasNoDirectory next new.top
  pub inner : new.directory.inner.items ≡ []
  pub leaves : new.directory.leaves.items ≡ []
  pub es_are : es ≡ []
  pub all : (e : EntryAt) → HasString next e → Contains es e

-- It is a directory of these places, or there are none.
abbrev pub HasRebuilt : List StorePage → Rebuilt → List EntryAt → Type 0
HasRebuilt next new es = HasLevels next new.top new.directory.inner.items new.directory.leaves.items es ⊎ IsWithoutLeaves next new es

-- ---- computed example: the only page, which was free, is taken
abbrev one_free : Drafted
one_free = record { before = shown []; now = Free ∷ []; away = false ∷ []; touched = [] }

abbrev one_away : Drafted
one_away = record { before = shown []; now = Slotted [] ∷ []; away = true ∷ []; touched = 0 ∷ [] }

first_is_taken : (has : Contains {X = ℕ} (0 ∷ []) 0) → IsTakenFor one_free one_away [] (3 ∷ []) (3 ∷ []) 0
first_is_taken has = record { was = Rattle.std.proofs.Common.inl refl; is = omega Rattle.std.proofs.Common.arith; taken_is = omega Rattle.std.proofs.Common.arith; kind = refl; away = refl; touched = has }
