use Rattle.std.proofs.Common.{ℕ, List, drop, Ok}
use Rattle.ct_site.specs.Disks.{IsSame}
use Rattle.pg_cache.specs.Caches.{IsCacheOf}
use Rattle.pg_directory.specs.Fetching.{ReadsDisk}
use Rattle.pg_directory.specs.Levels.{AreLeaves}
use Rattle.pg_directory.specs.Looking.{DiskHolds}
use Rattle.pg_directory.specs.Trees.{StorePage}
use Rattle.pg_directory.specs.declared.entries.EntryAt.{EntryAt}
use Rattle.pg_directory.proofs.Namings.{HasNamed}
use Rattle.pg_directory.proofs.naming.named_places.Given as goal

abbrev pub invariant-loop-i : goal.invariant-loop-i
invariant-loop-i g l = record {
  cache : IsCacheOf (g.D.Disk.disk l.disk) l.journal l.cache;
  same : IsSame (g.D.Disk.disk l.fn.disk) (g.D.Disk.disk l.disk);
  reads : ReadsDisk {T = Unit {0}} (g.D.Disk.disk l.fn.disk) (g.D.Disk.disk l.disk) (Ok tt);
  named : (top : ℕ) (pages : List StorePage) (es : List EntryAt) → DiskHolds (g.D.Disk.disk l.fn.disk) l.journal top pages → AreLeaves pages l.leaves es → HasNamed pages (drop l.i l.leaves) es l.places.items;
}
