use Rattle.std.proofs.Common.{ℕ, List, ◌≡◌, ◌-◌, length, Ok}
use Rattle.std.specs.Prelude.{map}
use Rattle.ct_site.specs.Disks.{IsSame}
use Rattle.pg_cache.specs.Caches.{IsCacheOf}
use Rattle.pg_map.specs.Holding.{IsChain}
use Rattle.pg_directory.specs.Trees.{StorePage, kind_of}
use Rattle.pg_directory.specs.Fetching.{ReadsDisk}
use Rattle.pg_window.specs.Loading.{Loads, ShowsStore}
use Rattle.pg_window.proofs.Chains.{IsOnChain}
use Rattle.pg_window.proofs.loading.load_chain.Given as goal

abbrev pub invariant-loop-done : goal.invariant-loop-done
invariant-loop-done g l = record {
  cache : IsCacheOf (g.D.Disk.disk l.disk) l.journal l.cache;
  same : IsSame (g.D.Disk.disk l.fn.disk) (g.D.Disk.disk l.disk);
  reads : ReadsDisk {T = Unit {0}} (g.D.Disk.disk l.fn.disk) (g.D.Disk.disk l.disk) (Ok tt);
  loads : Loads l.fn.sheets.items l.sheets.items l.fn.loaded.items l.loaded.items;
  chain : (top : ℕ) (pages : List StorePage) (chain value : List ℕ) → ShowsStore (g.D.Disk.disk l.fn.disk) l.journal top pages l.fn.sheets.items → IsChain (map kind_of pages) l.fn.first chain value
      → length value ≡ l.fn.count → IsOnChain pages l.fn.sheets.items l.sheets.items chain l.number l.done l.fn.count;
}

abbrev pub decreases-loop-done : goal.decreases-loop-done
decreases-loop-done g l = l.fn.count - l.done
