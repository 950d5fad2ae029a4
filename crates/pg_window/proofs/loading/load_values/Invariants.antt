use Rattle.std.proofs.Common.{ℕ, List, ◌≡◌, take, Ok}
use Rattle.std.specs.Prelude.{map}
use Rattle.ct_site.specs.Disks.{IsSame}
use Rattle.pg_cache.specs.Caches.{IsCacheOf}
use Rattle.pg_map.specs.Holding.{Placed, bytes_of, chains_of}
use Rattle.pg_map.specs.Loose.{Stand}
use Rattle.pg_map.specs.laws.Standing.{Items}
use Rattle.pg_directory.specs.Trees.{StorePage, kind_of}
use Rattle.pg_directory.specs.Fetching.{ReadsDisk}
use Rattle.pg_window.specs.Loading.{AddsLongs, Loads, ShowsStore}
use Rattle.pg_window.proofs.loading.load_values.Given as goal

abbrev pub invariant-loop-i : goal.invariant-loop-i
invariant-loop-i g l = record {
  cache : IsCacheOf (g.D.Disk.disk l.disk) l.journal l.cache;
  same : IsSame (g.D.Disk.disk l.fn.disk) (g.D.Disk.disk l.disk);
  reads : ReadsDisk {T = Unit {0}} (g.D.Disk.disk l.fn.disk) (g.D.Disk.disk l.disk) (Ok tt);
  loads : Loads l.fn.sheets.items l.sheets.items l.fn.loaded.items l.loaded.items;
  values : (top : ℕ) (pages : List StorePage) (ps : List Placed) → ShowsStore (g.D.Disk.disk l.fn.disk) l.journal top pages l.fn.sheets.items → Items ps → Stand (map kind_of pages) ps → l.page ≡ bytes_of ps
      → AddsLongs pages l.fn.sheets.items l.sheets.items (chains_of (take l.i ps));
}
