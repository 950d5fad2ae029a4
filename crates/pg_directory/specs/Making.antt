-- A directory that is made anew: its leaves, and the pages above them.
use Rattle.std.specs.Prelude.{◌≡◌, ℕ, ◌+◌, ◌*◌, ◌^◌, ◌≤◌, ◌<◌, List, [], ◌∷◌, ◌++◌, length, map, refl}
use Rattle.pg_directory.specs.declared.entries.Child.{Child}
use Rattle.pg_directory.specs.declared.entries.EntryAt.{EntryAt}
use Rattle.pg_directory.specs.declared.making.NewDirectory.{NewDirectory}
use Rattle.pg_directory.specs.Building.{Above, above_of, numbers_of, AreLevels}
use Rattle.pg_directory.specs.Layering.{all_pages}
use Rattle.pg_directory.specs.Leaves.{LeafAt, leaf_at, leaf_child, leaf_numbers, leaves_for, entries_by, AreLeafPages}
use Rattle.pg_directory.specs.Numbering.{numbers_from, homes_taken}
use Rattle.pg_directory.specs.Pages.{Leaf, Inner}
use Rattle.pg_directory.specs.Trees.{Directory}
use Rattle.pg_directory.specs.Written.{PageWrite}
use Rattle.pg_directory.specs.laws.Building.{numbers_down}

-- the leaves as pages that are written, and the pages above them
abbrev pub leaf_writes : List LeafAt → List PageWrite
leaf_writes ls = map {B = PageWrite} (λ (l : LeafAt). (l.number, Directory (Leaf l.entries))) ls

abbrev pub above_writes : List Above → List PageWrite
above_writes as_ = map {B = PageWrite} (λ (a : Above). (a.number, Directory (Inner a.level a.children))) as_

abbrev pub directory_writes : List LeafAt → List Above → List PageWrite
directory_writes ls as_ = leaf_writes ls ++ above_writes as_

-- Leaves of these entries, and pages above them up to a top, with the numbers of these pages from the top down.
pub record IsMade (places : List EntryAt) (ls : List LeafAt) (as_ : List Above) (inner : List ℕ) (top : Child) : Type 0 where
  pub leaves : AreLeafPages ls
  pub named : entries_by ls ≡ places
  pub levels : List (List Above)
  pub are : AreLevels 0 (map leaf_child ls) levels top
  pub pages_are : as_ ≡ all_pages levels
  pub inner_are : inner ≡ numbers_down levels []

-- A directory of these entries, under the numbers that are taken first.
pub record IsMadeOn (homes : ℕ) (free : List ℕ) (places : List EntryAt) (ls : List LeafAt) (as_ : List Above) (inner : List ℕ) (top : Child) (count : ℕ) : Type 0 where
  pub made : IsMade places ls as_ inner top
  pub few : length made.levels < 256
  pub numbers : leaf_numbers ls ++ numbers_of as_ ≡ numbers_from free homes count
  pub most : homes_taken free homes count ≤ 2 ^ 31

-- how many pages it has
abbrev pub new_pages : NewDirectory → ℕ
new_pages d = length d.leaves.items + length d.upper.items

-- the same of a directory that is to be written: it has at most two pages for each leaf that is needed
pub record IsNewDirectory (homes : ℕ) (free : List ℕ) (places : List EntryAt) (d : NewDirectory) : Type 0 where
  pub on : IsMadeOn homes free places (map leaf_at d.leaves.items) (map above_of d.upper.items) d.inner.items d.top (new_pages d)
  pub children : d.children.items ≡ map leaf_child (map leaf_at d.leaves.items)
  pub few : new_pages d ≤ 2 * leaves_for (length places)

-- the store would have too many pages
abbrev pub NeedsTooMany : ℕ → List ℕ → List EntryAt → Type 0
NeedsTooMany homes free places = 2 ^ 31 < homes_taken free homes (2 * leaves_for (length places))

-- ---- computed example: one leaf of one entry
module _ (e : EntryAt) where
  one_leaf : directory_writes (record { number = 4; entries = e ∷ [] } ∷ []) [] ≡ (4, Directory (Leaf (e ∷ []))) ∷ []
  one_leaf = refl
