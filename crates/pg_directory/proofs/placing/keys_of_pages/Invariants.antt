use Rattle.std.specs.Prelude.{map}
use Rattle.std.proofs.Common.{◌≡◌, ℕ, List, take, Ok}
use Rattle.ct_site.specs.Disks.{IsSame}
use Rattle.pg_cache.specs.Caches.{IsCacheOf}
use Rattle.pg_directory.specs.Counting.{places_from}
use Rattle.pg_directory.specs.Fetching.{ReadsDisk}
use Rattle.pg_directory.specs.Looking.{DiskHolds}
use Rattle.pg_directory.specs.Noting.{note_of}
use Rattle.pg_directory.specs.Placing.{with_keys, keyed_places}
use Rattle.pg_directory.specs.Trees.{StorePage, key_at}
use Rattle.pg_directory.proofs.placing.keys_of_pages.Given as goal

abbrev pub invariant-loop-i : goal.invariant-loop-i
invariant-loop-i g l = record {
  cache : IsCacheOf (g.D.Disk.disk l.disk) l.journal l.cache;
  same : IsSame (g.D.Disk.disk l.fn.disk) (g.D.Disk.disk l.disk);
  reads : ReadsDisk {T = Unit {0}} (g.D.Disk.disk l.fn.disk) (g.D.Disk.disk l.disk) (Ok tt);
  keys : (top : ℕ) (pages : List StorePage) → DiskHolds (g.D.Disk.disk l.fn.disk) l.journal top pages → l.notes ≡ map note_of pages → keyed_places l.keys.items ≡ with_keys (key_at pages) (places_from 3 (take l.i pages));
}
