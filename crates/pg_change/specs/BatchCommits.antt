-- The commit of a batch: the root, and each page that the plan or the directory changed.
use Rattle.std.specs.Prelude.{◌≡◌, ◌⊎◌, ℕ, ◌+◌, ◌-◌, ◌^◌, ◌≤◌, ◌<◌, List, [], ◌∷◌, length, get_or, codes, refl}
use Rattle.pg_journal.specs.Pages.{Numbered, AreBetween, root_page}
use Rattle.pg_journal.specs.Recovered.{IsRecovered}
use Rattle.pg_map.specs.Kinds.{Kind, Free, Slotted, bytes_of_kind, IsKind}
use Rattle.pg_directory.specs.Looking.{store_pages}
use Rattle.pg_directory.specs.Trees.{StorePage, bytes_of_page}
use Rattle.pg_directory.specs.Written.{PageWrite, store_batch}
use Rattle.pg_plan.specs.Drafts.{Drafted}
use Rattle.pg_plan.specs.Touched.{AreTouched}
use Rattle.pg_change.specs.DirectoryImages.{AreGood}
use Rattle.pg_change.specs.Next.{HaveKinds, image_at, page_writes}

-- the root, which names this top, and what is written under these numbers
abbrev pub commit_pages : List Kind → List PageWrite → List ℕ → ℕ → List Numbered
commit_pages now directory numbers top = store_batch (3 + length now) top (page_writes now directory numbers)

-- These pages are in order of their numbers, each of them is one of the store's home pages then, and each image has the size of a page.
abbrev pub AreCommitPages : List Kind → List PageWrite → List ℕ → ℕ → Type 0
AreCommitPages now directory numbers top = AreBetween 2 (3 + length now) (commit_pages now directory numbers top)

-- How a batch ends over so many home pages: a draft whose pages may stand in a store, the numbers of those that were changed, and pages of
-- the directory.
pub record IsBatchEnd (d : Drafted) (directory : List PageWrite) (numbers : List ℕ) (homes : ℕ) : Type 0 where
  pub touched : AreTouched d numbers
  pub before : homes ≡ 3 + length d.before.kinds
  pub count : 3 + length d.now ≤ 2 ^ 31
  pub kinds : HaveKinds d.now numbers
  pub good : AreGood directory

-- The page of this number is one of those behind the root, and what is written under it has the size of a page.
pub record MayWrite (now : List Kind) (directory : List PageWrite) (number : ℕ) : Type 0 where
  pub low : 3 ≤ number
  pub less : number < 3 + length now
  pub long : length (bytes_of_page (image_at now directory number)) ≡ 4096
  pub kind : IsKind (get_or now (number - 3) Free)

-- The image recovers to the store before, or to the one after.
abbrev pub IsEitherStore : ℕ → List StorePage → ℕ → List StorePage → List ℕ → Type 0
IsEitherStore top pages top_next next image = IsRecovered image (store_pages top pages) ⊎ IsRecovered image (store_pages top_next next)

-- ---- computed example: of two pages the second is written
the_second : commit_pages (Free ∷ Slotted (codes "a" ∷ []) ∷ []) [] (4 ∷ []) 0 ≡ (2, root_page 5 0) ∷ (4, bytes_of_kind (Slotted (codes "a" ∷ []))) ∷ []
the_second = refl
