-- A batch over the parts of a heap with a directory: what it begins with, and what its commit leaves.
use Rattle.std.specs.Prelude.{◌≡◌, ℕ, ◌-◌, List, [], ◌∷◌, ◌++◌, map, Option, refl}
use Rattle.ct_site.specs.Disks.{DiskView}
use Rattle.ct_keep.specs.Content.{Content, Change}
use Rattle.ct_keep.specs.Counting.{PrefixCounts, AreCounts}
use Rattle.pg_batch.specs.Counts.{WereThere}
use Rattle.pg_directory.specs.declared.directories.Directory.{Directory}
use Rattle.pg_directory.specs.declared.entries.EntryAt.{EntryAt}
use Rattle.pg_directory.specs.Holding.{HoldsMap}
use Rattle.pg_directory.specs.Looking.{DiskHolds, store_pages}
use Rattle.pg_directory.specs.Trees.{StorePage, kind_of}
use Rattle.pg_window.specs.declared.sheets.Sheet.{Sheet}
use Rattle.pg_window.specs.declared.sheets.Sheet.TheVariants.{Away as AwaySheet}
use Rattle.pg_window.specs.Sheets.{sheet_kinds}
use Rattle.pg_window.specs.Windows.{away_of}
use Rattle.pg_plan.specs.Drafts.{Drafted, shown}
use Rattle.pg_plan.specs.FreePlaces.{ListsFree}
use Rattle.pg_change.specs.Batches.{IsStoreBefore, IsStoreAfter}
use Rattle.pg_change.specs.Planning.{IsBegun}
use Rattle.pg_change.specs.Rebuilding.{own_numbers}
use Rattle.pg_change.specs.declared.rebuilding.Rebuilt.{Rebuilt}

-- a draft that begins with these pages
abbrev pub first_draft : List Sheet → Drafted
first_draft sheets = record { before = shown sheets; now = sheet_kinds sheets; away = away_of sheets; touched = [] }

-- Changes by their keys, over a store: the disk stands for pages that hold a map, with this directory; the draft has just begun over them, and
-- beside the changes stand the places of the old entries of their keys, and those of the pages that these are on. The counts are those of the map.
pub record IsBatchBegun (disk : DiskView) (homes top : ℕ) (old : Directory) (ws : List Change) (os : List (Option EntryAt)) (places : List ℕ) (d : Drafted) (counts : PrefixCounts) : Type 0 where
  pub pages : List StorePage
  pub held : Content
  pub entries : List EntryAt
  pub part : Content
  pub holds : DiskHolds disk homes top pages
  pub is_map : HoldsMap (store_pages top pages) held
  pub store : IsStoreBefore pages held top old entries
  pub begun : IsBegun pages part ws places d
  pub there : WereThere held ws os
  pub counted : AreCounts held counts

-- The disk stands for pages that hold this map, with a directory of it. Each page that is free is listed, and the counts are those of the map.
pub record IsBatchMade (disk : DiskView) (homes : ℕ) (m : Content) (free : List ℕ) (counts : PrefixCounts) (top : ℕ) (directory : Directory) : Type 0 where
  pub pages : List StorePage
  pub new : Rebuilt
  pub top_is : top ≡ new.top
  pub directory_is : directory ≡ new.directory
  pub holds : DiskHolds disk homes top pages
  pub store : IsStoreAfter pages m new
  pub listed : ListsFree (map kind_of pages) (free ++ map (λ (n : ℕ). n - 3) (own_numbers new.directory))
  pub counted : AreCounts m counts

-- ---- computed example: nothing has been touched of a page that isn't in memory
none_touched : (first_draft (AwaySheet ∷ [])).touched ≡ []
none_touched = refl
