-- A store without a directory gets one.
use Rattle.std.specs.Prelude.{◌≡◌, ℕ, ◌+◌, ◌-◌, ◌*◌, ◌<◌, List, ◌∷◌, ◌++◌, length, drop, map, get_or, Some, refl}
use Rattle.ct_site.specs.Disks.{DiskView, Leaves}
use Rattle.ct_keep.specs.Content.{Content}
use Rattle.pg_journal.specs.Pages.{Numbered}
use Rattle.pg_journal.specs.Recovered.{number_pages}
use Rattle.pg_map.specs.Holding.{IsLayout}
use Rattle.pg_map.specs.Kinds.{Free}
use Rattle.pg_directory.specs.declared.entries.EntryAt.{EntryAt}
use Rattle.pg_directory.specs.declared.making.NewDirectory.{NewDirectory}
use Rattle.pg_directory.specs.Building.{above_of}
use Rattle.pg_directory.specs.Holding.{RecoversTo}
use Rattle.pg_directory.specs.Leaves.{leaf_at, leaves_for}
use Rattle.pg_directory.specs.Levels.{pages_of, HasLevels}
use Rattle.pg_directory.specs.Looking.{DiskHolds}
use Rattle.pg_directory.specs.Making.{directory_writes, new_pages}
use Rattle.pg_directory.specs.Numbering.{homes_taken}
use Rattle.pg_directory.specs.OpenStore.{ArePlaces}
use Rattle.pg_directory.specs.Trees.{StorePage, kind_of, page_at, HasNoDirectory}
use Rattle.pg_directory.specs.Written.{PageWrite, write_numbers, store_batch}
use Rattle.pg_plan.specs.FreePlaces.{ListsFree}

-- the pages of a new directory
abbrev pub new_writes : NewDirectory → List PageWrite
new_writes d = directory_writes (map leaf_at d.leaves.items) (map above_of d.upper.items)

-- the batch of these, and of a root that names its top
abbrev pub directory_batch : ℕ → NewDirectory → List Numbered
directory_batch homes d = store_batch homes d.top.page (new_writes d)

abbrev pub batch_numbers : NewDirectory → List ℕ
batch_numbers d = 2 ∷ write_numbers (new_writes d)

-- how many home pages there are with it, where these places are free
abbrev pub homes_directed : ℕ → List ℕ → NewDirectory → ℕ
homes_directed homes free d = homes_taken free homes (new_pages d)

-- where a commit ends of a directory of so many entries: at most two pages are added and written for each leaf that they need
abbrev pub direct_end : ℕ → ℕ → ℕ
direct_end homes entries = 4096 * (homes + 2 * leaves_for entries + number_pages (1 + 2 * leaves_for entries) + (1 + 2 * leaves_for entries))

-- at each moment what is left recovers to the map
abbrev pub LeavesMap : DiskView → DiskView → Content → Type 0
LeavesMap old new m = Leaves old new (λ image. RecoversTo image (Some m))

-- The disk stands for pages that hold a map without a directory; these are the places of its entries, in order, and some of free pages.
pub record IsPlainStore (disk : DiskView) (homes : ℕ) (places : List EntryAt) (free : List ℕ) : Type 0 where
  pub pages : List StorePage
  pub held : Content
  pub holds : DiskHolds disk homes 0 pages
  pub none : HasNoDirectory pages 0
  pub layout : IsLayout (map kind_of pages) held
  pub places_are : ArePlaces pages places
  pub free_are : (k : ℕ) → k < length free → kind_of (page_at pages (get_or free k 0 + 3)) ≡ Free

-- the places of the pages of a new directory
abbrev pub made_places : NewDirectory → List ℕ
made_places d = map (λ (n : ℕ). n - 3) (d.inner.items ++ pages_of d.children.items)

-- The disk stands for the pages of the map with the new directory. Where each free page was listed once, each is that isn't taken.
pub record HoldsDirectory (disk : DiskView) (homes : ℕ) (d : NewDirectory) (places : List EntryAt) (free : List ℕ) (old : List StorePage) (m : Content) : Type 0 where
  pub pages : List StorePage
  pub holds : DiskHolds disk homes d.top.page pages
  pub layout : IsLayout (map kind_of pages) m
  pub levels : HasLevels pages d.top.page d.inner.items d.children.items places
  pub listed : ListsFree (map kind_of old) free → ListsFree (map kind_of pages) (drop (new_pages d) free ++ made_places d)

-- ---- computed example: the directory of one entry takes a leaf, so that the commit ends at most behind two more pages, one of numbers, and
-- three in the batch
of_one_entry : direct_end 4 1 ≡ 4096 * 10
of_one_entry = refl
