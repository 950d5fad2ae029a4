use Rattle.std.specs.Prelude.{map}
use Rattle.std.proofs.Common.{◌≡◌, List, take, vec_len, Ok}
use Rattle.ct_site.specs.Disks.{IsSame}
use Rattle.ct_keep.specs.SeenChanges.{change_of}
use Rattle.pg_cache.specs.Caches.{IsCacheOf}
use Rattle.pg_directory.specs.Fetching.{ReadsDisk}
use Rattle.pg_directory.specs.Looking.{DiskHolds}
use Rattle.pg_directory.specs.Trees.{StorePage}
use Rattle.pg_batch.specs.Places.{AreKeyPlaces, FindsAll}
use Rattle.pg_batch.proofs.placing.places_of.Given as goal

abbrev pub invariant-loop-i : goal.invariant-loop-i
invariant-loop-i g l = record {
  count : vec_len l.places ≡ l.i;
  cache : IsCacheOf (g.D.Disk.disk l.disk) l.journal l.cache;
  same : IsSame (g.D.Disk.disk l.fn.disk) (g.D.Disk.disk l.disk);
  reads : ReadsDisk {T = Unit {0}} (g.D.Disk.disk l.fn.disk) (g.D.Disk.disk l.disk) (Ok tt);
  places : (pages : List StorePage) → DiskHolds (g.D.Disk.disk l.fn.disk) l.journal l.top pages → FindsAll pages l.top
      → AreKeyPlaces pages (map change_of (take l.i l.changes)) l.places.items;
}
