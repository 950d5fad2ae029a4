-- The levels of a directory above its leaves, made anew.
use Rattle.std.specs.Prelude.{◌≡◌, ℕ, suc, ◌+◌, ◌/◌, ◌≤◌, List, [], ◌∷◌, length, map, flat_map, take, get_or, refl}
use Rattle.pg_map.specs.Kinds.{Each}
use Rattle.pg_directory.specs.declared.entries.Child.{Child}
use Rattle.pg_directory.specs.declared.building.InnerPage.{InnerPage}
use Rattle.pg_directory.specs.Pages.{Inner, no_child}
use Rattle.pg_directory.specs.Trees.{StorePage, Directory, page_at}

-- A page above the leaves: its number, how far it is above them, and what it names.
pub record Above : Type 0 where
  pub number : ℕ
  pub level : ℕ
  pub children : List Child

-- what stands for it a level above: its number, and the least entry below it
abbrev pub child_of : Above → Child
child_of a = record { page = a.number; least = (get_or a.children 0 no_child).least }

-- what pages name, one after the other
abbrev pub named_by : List Above → List Child
named_by as_ = flat_map (λ (a : Above). a.children) as_

-- They are of this level, and name at least one page and at most so many as there is room for.
abbrev pub AreOfLevel : ℕ → List Above → Type 0
AreOfLevel level as_ = Each (λ (a : Above). (a.level ≡ level) × (1 ≤ length a.children) × (length a.children ≤ 408)) as_

-- Each of them stands under its number.
abbrev pub StandThere : List StorePage → List Above → Type 0
StandThere pages as_ = Each (λ (a : Above). (3 ≤ a.number) × (page_at pages a.number ≡ Directory (Inner a.level a.children))) as_

-- Pages of one level after the other, from the one above the leaves on: the first name these pages, each further level names the pages of
-- the one before, and these are the pages of the last one.
abbrev pub LeadUp : ℕ → List Child → List (List Above) → List Child → Type 0
LeadUp level cs [] last = cs ≡ last
LeadUp level cs (as_ ∷ more) last = AreOfLevel (suc level) as_ × (named_by as_ ≡ cs) × LeadUp (suc level) (map child_of as_) more last

-- The last one is a single page, the top.
abbrev pub AreLevels : ℕ → List Child → List (List Above) → Child → Type 0
AreLevels level cs levels top = LeadUp level cs levels (top ∷ [])

-- how many pages a level takes, each of which names 408 pages at most
abbrev pub pages_above : ℕ → ℕ
pages_above n = (n + 407) / 408

-- a page that is to be written
abbrev pub above_of : InnerPage → Above
above_of p = record { number = p.number; level = p.level; children = p.children.items }

abbrev pub numbers_of : List Above → List ℕ
numbers_of as_ = map (λ (a : Above). a.number) as_

-- Pages of this level name these pages, as few as may be, under the first of these numbers.
pub record BuildsLevel (level : ℕ) (below : List Child) (numbers : List ℕ) (as_ : List Above) : Type 0 where
  pub of_level : AreOfLevel level as_
  pub named : named_by as_ ≡ below
  pub numbers_are : numbers_of as_ ≡ take (pages_above (length below)) numbers

-- ---- computed examples
of_one : pages_above 1 ≡ 1
of_one = refl

of_two_pages : pages_above 409 ≡ 2
of_two_pages = refl

-- one leaf is its own top
module _ (leaf : Child) where
  one_leaf : AreLevels 0 (leaf ∷ []) [] leaf
  one_leaf = refl
