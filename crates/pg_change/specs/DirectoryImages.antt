-- Pages of the directory that are to be written, by their numbers.
use Rattle.std.specs.Prelude.{◌≡◌, ℕ, ◌≤◌, List, [], ◌∷◌, length, map, refl}
use Rattle.pg_directory.specs.declared.entries.EntryAt.{EntryAt}
use Rattle.pg_directory.specs.Pages.{DirectoryPage, Leaf, Inner}
use Rattle.pg_directory.specs.Trees.{StorePage, Plain, Directory, IsPage}
use Rattle.pg_directory.specs.Written.{PageWrite, write_over}
use Rattle.pg_map.specs.Kinds.{Free}

-- what is written by images that are kept by number
abbrev pub images_seen : List (ℕ × DirectoryPage) → List PageWrite
images_seen es = map {B = PageWrite} (λ (e : ℕ × DirectoryPage). (e.0, Directory e.1)) es

-- Under each number they write the same page, or both none.
pub record AreSameWrites (vs ws : List PageWrite) : Type 0 where
  pub same : (n : ℕ) (p : StorePage) → write_over vs n p ≡ write_over ws n p

-- What the page names has room on it.
abbrev pub FitsPage : DirectoryPage → Type 0
FitsPage (Leaf es) = length es ≤ 681
FitsPage (Inner level cs) = length cs ≤ 408

-- Each page that is written may stand in a store.
pub record AreGood (ws : List PageWrite) : Type 0 where
  pub good : (n : ℕ) (p : StorePage) → IsPage p → IsPage (write_over ws n p)

-- ---- computed examples: what is written twice is the first of both
module _ (a b : StorePage) where
  the_first : write_over ((4, a) ∷ (4, b) ∷ []) 4 (Plain Free) ≡ write_over ((4, a) ∷ []) 4 (Plain Free)
  the_first = refl

  room_for_one : (e : EntryAt) → FitsPage (Leaf (e ∷ [])) ≡ (1 ≤ 681)
  room_for_one e = refl
