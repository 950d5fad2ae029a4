use Rattle.std.specs.Prelude.{map}
use Rattle.std.proofs.Common.{◌≡◌, ℕ, ◌*◌, ◌^◌, ◌≤◌, List, take, Ok}
use Rattle.ct_site.specs.Disks.{IsSame}
use Rattle.ct_keep.specs.Content.{Content, Change}
use Rattle.pg_cache.specs.Caches.{IsCacheOf}
use Rattle.pg_map.specs.Holding.{IsLayout}
use Rattle.pg_directory.specs.Fetching.{ReadsDisk}
use Rattle.pg_directory.specs.Looking.{DiskHolds}
use Rattle.pg_directory.specs.Trees.{StorePage, kind_of}
use Rattle.pg_batch.specs.Places.{AreKeyPlaces}
use Rattle.pg_batch.specs.Weights.{old_weight}
use Rattle.pg_batch.proofs.weighing.old_weights.Given as goal

abbrev pub invariant-loop-i : goal.invariant-loop-i
invariant-loop-i g l = record {
  small : l.total ≤ l.i * 2 ^ 64;
  cache : IsCacheOf (g.D.Disk.disk l.disk) l.journal l.cache;
  same : IsSame (g.D.Disk.disk l.fn.disk) (g.D.Disk.disk l.disk);
  reads : ReadsDisk {T = Unit {0}} (g.D.Disk.disk l.fn.disk) (g.D.Disk.disk l.disk) (Ok tt);
  total : (top : ℕ) (pages : List StorePage) → DiskHolds (g.D.Disk.disk l.fn.disk) l.journal top pages
      → (m : Content) (ws : List Change) → IsLayout (map kind_of pages) m → AreKeyPlaces pages ws l.places → l.total ≡ old_weight (take l.i ws) m;
}
