use Rattle.std.proofs.Common.{ℕ, List, take, Ok}
use Rattle.ct_site.specs.Disks.{IsSame}
use Rattle.ct_keep.specs.Content.{Content}
use Rattle.pg_cache.specs.Caches.{IsCacheOf}
use Rattle.pg_directory.specs.Trees.{StorePage}
use Rattle.pg_directory.specs.Fetching.{ReadsDisk}
use Rattle.pg_window.specs.Loading.{ArePagesThere, IsStoreWindow, Loads}
use Rattle.pg_window.specs.Windows.{away_of}
use Rattle.pg_window.proofs.gathering.load_pages.Given as goal

abbrev pub invariant-loop-i : goal.invariant-loop-i
invariant-loop-i g l = record {
  cache : IsCacheOf (g.D.Disk.disk l.disk) l.journal l.cache;
  same : IsSame (g.D.Disk.disk l.fn.disk) (g.D.Disk.disk l.disk);
  reads : ReadsDisk {T = Unit {0}} (g.D.Disk.disk l.fn.disk) (g.D.Disk.disk l.disk) (Ok tt);
  loads : Loads l.fn.sheets.items l.sheets.items l.fn.loaded.items l.loaded.items;
  window : (top : ℕ) (pages : List StorePage) (m : Content) → IsStoreWindow (g.D.Disk.disk l.fn.disk) l.journal top pages m l.fn.sheets.items → IsStoreWindow (g.D.Disk.disk l.disk) l.journal top pages m l.sheets.items;
  there : (top : ℕ) (pages : List StorePage) (m : Content) → IsStoreWindow (g.D.Disk.disk l.fn.disk) l.journal top pages m l.fn.sheets.items → ArePagesThere pages (away_of l.sheets.items) (take l.i l.places);
}
