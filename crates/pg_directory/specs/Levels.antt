-- A directory level by level: the pages of a level, and what they name one after the other.
use Rattle.std.specs.Prelude.{◌≡◌, ℕ, zero, suc, ◌≤◌, List, [], ◌∷◌, ◌++◌, map, Some, refl}
use Rattle.std.specs.List.{Contains}
use Rattle.std.proofs.Common.{arith}
use Rattle.pg_map.specs.Kinds.{Each}
use Rattle.pg_map.specs.Holding.{times}
use Rattle.pg_directory.specs.declared.entries.EntryAt.{EntryAt}
use Rattle.pg_directory.specs.declared.entries.Child.{Child}
use Rattle.pg_directory.specs.Pages.{Leaf, Inner}
use Rattle.pg_directory.specs.Trees.{StorePage, Directory, page_at, key_at, one_if_directory, HasString, Rise, first_of}

-- the pages that some children are, and the least entries below them
abbrev pub pages_of : List Child → List ℕ
pages_of cs = map (λ (c : Child). c.page) cs

abbrev pub leasts_of : List Child → List EntryAt
leasts_of cs = map (λ (c : Child). c.least) cs

-- The pages are leaves, which name these entries one after the other; with each page stands the first entry that it names.
abbrev pub AreLeaves : List StorePage → List Child → List EntryAt → Type 0
AreLeaves pages [] es = es ≡ []
AreLeaves pages (c ∷ cs) es =
    (own : List EntryAt) × (later : List EntryAt) × (3 ≤ c.page) × (page_at pages c.page ≡ Directory (Leaf own)) × (first_of own ≡ Some c.least) × AreLeaves pages cs later × (es ≡ own ++ later)

-- The pages are so far above the leaves, and name these pages one after the other; with each page stands the least entry below it.
abbrev pub IsLevel : List StorePage → ℕ → List Child → List Child → Type 0
IsLevel pages level [] ds = ds ≡ []
IsLevel pages level (c ∷ cs) ds =
    (own : List Child) × (later : List Child) × (3 ≤ c.page) × (page_at pages c.page ≡ Directory (Inner level own)) × (first_of (leasts_of own) ≡ Some c.least) × IsLevel pages level cs later × (ds ≡ own ++ later)

-- From these pages, which are so far above the leaves, one comes to these leaves; the numbers are those of the pages above the leaves.
abbrev pub LeadsTo : List StorePage → ℕ → List Child → List ℕ → List Child → Type 0
LeadsTo pages zero cs numbers leaves = (numbers ≡ []) × (leaves ≡ cs)
LeadsTo pages (suc level) cs numbers leaves =
    (ds : List Child) × (below : List ℕ) × IsLevel pages (suc level) cs ds × LeadsTo pages level ds below leaves × (numbers ≡ pages_of cs ++ below)

-- From the page at the top one comes to these leaves, which name each entry exactly once, in order of key; each page of the directory is
-- one of these above the leaves or a leaf, exactly once.
pub record HasLevels (pages : List StorePage) (top : ℕ) (inner : List ℕ) (leaves : List Child) (es : List EntryAt) : Type 0 where
  pub level : ℕ
  pub least : EntryAt
  pub leads : LeadsTo pages level (record { page = top; least = least } ∷ []) inner leaves
  pub are : AreLeaves pages leaves es
  pub once : (i : ℕ) → 3 ≤ i → times i (inner ++ pages_of leaves) ≡ one_if_directory (page_at pages i)
  pub strings : Each (HasString pages) es
  pub all : (e : EntryAt) → HasString pages e → Contains es e
  pub order : Rise (key_at pages) es

-- ---- computed example: a page above one leaf, which names one entry
module _ (e : EntryAt) where
  abbrev leaf : Child
  leaf = record { page = 4; least = e }

  abbrev two : List StorePage
  two = Directory (Inner 1 (leaf ∷ [])) ∷ Directory (Leaf (e ∷ [])) ∷ []

  one_leaf : AreLeaves two (leaf ∷ []) (e ∷ [])
  one_leaf = (e ∷ [], [], omega arith, refl, refl, refl, refl)

  one_above : LeadsTo two 1 (record { page = 3; least = e } ∷ []) (3 ∷ []) (leaf ∷ [])
  one_above = (leaf ∷ [], [], (leaf ∷ [], [], omega arith, refl, refl, refl, refl), (refl, refl), refl)
