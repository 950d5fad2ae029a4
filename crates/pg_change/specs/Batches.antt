-- A store before a batch and after it: its pages, the map that they hold, and its directory.
use Rattle.std.specs.Prelude.{◌≡◌, ℕ, ◌≤◌, List, map}
use Rattle.ct_keep.specs.Content.{Content}
use Rattle.pg_map.specs.Holding.{times, IsLayout}
use Rattle.pg_map.specs.Kinds.{Each}
use Rattle.pg_directory.specs.declared.directories.Directory.{Directory}
use Rattle.pg_directory.specs.declared.entries.EntryAt.{EntryAt}
use Rattle.pg_directory.specs.Levels.{AreLeaves}
use Rattle.pg_directory.specs.Trees.{StorePage, IsPage, kind_of, page_at, one_if_directory}
use Rattle.pg_leaves.specs.Relisting.{ListStrings}
use Rattle.pg_change.specs.declared.rebuilding.Rebuilt.{Rebuilt}
use Rattle.pg_change.specs.Rebuilding.{own_numbers, HasRebuilt, WasLed}

-- The pages hold a map; the leaves of the directory name the places of its entries in order, from the page at the top one comes to them,
-- and each page of the directory is one of these, once. Where there is no directory there is no entry.
pub record IsStoreBefore (pages : List StorePage) (m : Content) (top : ℕ) (old : Directory) (es : List EntryAt) : Type 0 where
  pub good : Each IsPage pages
  pub layout : IsLayout (map kind_of pages) m
  pub lists : ListStrings pages es
  pub leaves : AreLeaves pages old.leaves.items es
  pub led : WasLed pages top old
  pub low : (i : ℕ) → 1 ≤ times i (own_numbers old) → 3 ≤ i
  pub once : (i : ℕ) → 3 ≤ i → times i (own_numbers old) ≡ one_if_directory (page_at pages i)

-- The pages hold a map, and the directory is one of all its entries.
pub record IsStoreAfter (next : List StorePage) (m : Content) (new : Rebuilt) : Type 0 where
  pub good : Each IsPage next
  pub layout : IsLayout (map kind_of next) m
  pub entries : List EntryAt
  pub directory : HasRebuilt next new entries
