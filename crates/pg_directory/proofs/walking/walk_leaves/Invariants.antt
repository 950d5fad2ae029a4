use Rattle.std.proofs.Common.{◌≤◌, ℕ, List, drop, Ok}
use Rattle.ct_site.specs.Disks.{IsSame}
use Rattle.pg_cache.specs.Caches.{IsCacheOf}
use Rattle.pg_directory.specs.Trees.{StorePage}
use Rattle.pg_directory.specs.Looking.{DiskHolds}
use Rattle.pg_directory.specs.Fetching.{ReadsDisk}
use Rattle.pg_directory.proofs.Walks.{HasWalked}
use Rattle.pg_directory.proofs.walking.walk_leaves.Given as goal

abbrev pub invariant-loop-i : goal.invariant-loop-i
invariant-loop-i g l = record {
  within : l.count ≤ l.limit;
  cache : IsCacheOf (g.D.Disk.disk l.disk) l.journal l.cache;
  same : IsSame (g.D.Disk.disk l.fn.disk) (g.D.Disk.disk l.disk);
  reads : ReadsDisk {T = Unit {0}} (g.D.Disk.disk l.fn.disk) (g.D.Disk.disk l.disk) (Ok tt);
  walked : (top : ℕ) (pages : List StorePage) → DiskHolds (g.D.Disk.disk l.fn.disk) l.journal top pages → HasWalked pages l.leaves (drop l.i l.leaves) l.count l.key.items;
}
