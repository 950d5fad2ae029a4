-- The leaves of a directory, made anew.
use Rattle.std.specs.Prelude.{◌≡◌, ℕ, ◌+◌, ◌/◌, ◌≤◌, List, [], ◌∷◌, length, map, flat_map, take, get_or, refl}
use Rattle.pg_map.specs.Kinds.{Each}
use Rattle.pg_directory.specs.declared.entries.Child.{Child}
use Rattle.pg_directory.specs.declared.entries.EntryAt.{EntryAt}
use Rattle.pg_directory.specs.declared.leaves.LeafPage.{LeafPage}
use Rattle.pg_directory.specs.Pages.{Leaf, no_entry}
use Rattle.pg_directory.specs.Trees.{StorePage, Directory, page_at}

-- A leaf: its number, and what it names.
pub record LeafAt : Type 0 where
  pub number : ℕ
  pub entries : List EntryAt

-- what stands for it a level above: its number, and its first entry
abbrev pub leaf_child : LeafAt → Child
leaf_child l = record { page = l.number; least = get_or l.entries 0 no_entry }

-- what leaves name, one after the other
abbrev pub entries_by : List LeafAt → List EntryAt
entries_by ls = flat_map (λ (l : LeafAt). l.entries) ls

-- Each of them names at least one entry, and at most so many as there is room for.
abbrev pub AreLeafPages : List LeafAt → Type 0
AreLeafPages ls = Each (λ (l : LeafAt). (1 ≤ length l.entries) × (length l.entries ≤ 681)) ls

-- Each of them stands under its number.
abbrev pub LeavesStand : List StorePage → List LeafAt → Type 0
LeavesStand pages ls = Each (λ (l : LeafAt). (3 ≤ l.number) × (page_at pages l.number ≡ Directory (Leaf l.entries))) ls

-- how many leaves name so many entries, as many in each as there is room for
abbrev pub leaves_for : ℕ → ℕ
leaves_for n = (n + 680) / 681

-- a leaf that is to be written
abbrev pub leaf_at : LeafPage → LeafAt
leaf_at p = record { number = p.number; entries = p.entries.items }

abbrev pub leaf_numbers : List LeafAt → List ℕ
leaf_numbers ls = map (λ (l : LeafAt). l.number) ls

-- Leaves name these entries, as few as may be, under the first of these numbers.
pub record BuildsLeaves (places : List EntryAt) (numbers : List ℕ) (ls : List LeafAt) : Type 0 where
  pub are : AreLeafPages ls
  pub named : entries_by ls ≡ places
  pub numbers_are : leaf_numbers ls ≡ take (leaves_for (length places)) numbers

-- ---- computed examples
of_none : leaves_for 0 ≡ 0
of_none = refl

of_682 : leaves_for 682 ≡ 2
of_682 = refl

-- two leaves name two entries, the first of which stands for the first leaf
module _ (a b : EntryAt) where
  two_leaves : entries_by (record { number = 4; entries = a ∷ [] } ∷ record { number = 7; entries = b ∷ [] } ∷ []) ≡ a ∷ b ∷ []
  two_leaves = refl

  its_first : leaf_child (record { number = 4; entries = a ∷ b ∷ [] }) ≡ record { page = 4; least = a }
  its_first = refl
