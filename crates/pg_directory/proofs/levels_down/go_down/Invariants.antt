use Rattle.std.proofs.Common.{ℕ, List, Ok}
use Rattle.ct_site.specs.Disks.{IsSame}
use Rattle.pg_cache.specs.Caches.{IsCacheOf}
use Rattle.pg_directory.specs.Trees.{StorePage}
use Rattle.pg_directory.specs.Looking.{DiskHolds}
use Rattle.pg_directory.specs.Fetching.{ReadsDisk}
use Rattle.pg_directory.proofs.LevelsRead.{HasRead}
use Rattle.pg_directory.proofs.levels_down.go_down.Given as goal

abbrev pub invariant-loop-level : goal.invariant-loop-level
invariant-loop-level g l = record {
  cache : IsCacheOf (g.D.Disk.disk l.disk) l.journal l.cache;
  same : IsSame (g.D.Disk.disk l.fn.disk) (g.D.Disk.disk l.disk);
  reads : ReadsDisk {T = Unit {0}} (g.D.Disk.disk l.fn.disk) (g.D.Disk.disk l.disk) (Ok tt);
  read : (number : ℕ) (pages : List StorePage) → DiskHolds (g.D.Disk.disk l.fn.disk) l.journal number pages → HasRead pages l.fn.level l.fn.here.items l.level l.here.items l.numbers.items;
}

abbrev pub decreases-loop-level : goal.decreases-loop-level
decreases-loop-level g l = l.level
