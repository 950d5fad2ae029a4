use Rattle.std.proofs.Common.{ℕ, List, ◌≤◌, ◌-◌, Ok, length}
use Rattle.ct_site.specs.Disks.{IsSame, Works}
use Rattle.pg_map.specs.Kinds.{Each}
use Rattle.pg_cache.specs.Caches.{IsCacheOf}
use Rattle.pg_directory.specs.Trees.{StorePage, key_at, HasString, Rise}
use Rattle.pg_directory.specs.Looking.{DiskHolds}
use Rattle.pg_directory.proofs.Ranks.{IsBetween}
use Rattle.pg_directory.proofs.changing.rank_among.Given as goal

abbrev pub invariant-loop-low : goal.invariant-loop-low
invariant-loop-low g l = record {
  order : l.low ≤ l.high;
  within : l.high ≤ length l.places;
  cache : IsCacheOf (g.D.Disk.disk l.disk) l.journal l.cache;
  same : IsSame (g.D.Disk.disk l.fn.disk) (g.D.Disk.disk l.disk);
  works : Works {T = Unit {0}} (g.D.Disk.disk l.fn.disk) (g.D.Disk.disk l.disk) (Ok tt);
  between : (top : ℕ) (pages : List StorePage) → DiskHolds (g.D.Disk.disk l.fn.disk) l.journal top pages → Each (HasString pages) l.places → Rise (key_at pages) l.places
      → IsBetween pages l.places l.key l.low l.high;
}

abbrev pub decreases-loop-low : goal.decreases-loop-low
decreases-loop-low g l = l.high - l.low
