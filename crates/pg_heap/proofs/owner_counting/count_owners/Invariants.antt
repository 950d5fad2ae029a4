use Rattle.std.specs.Prelude.{map}
use Rattle.std.proofs.Common.{ℕ, ◌≤◌, List, take, Ok}
use Rattle.ct_site.specs.Disks.{IsSame}
use Rattle.ct_keep.specs.Content.{Content}
use Rattle.ct_keep.specs.Counting.{prefix_count, AreCounts}
use Rattle.pg_cache.specs.Caches.{IsCacheOf}
use Rattle.pg_map.specs.Holding.{IsLayout}
use Rattle.pg_directory.specs.Fetching.{ReadsDisk}
use Rattle.pg_directory.specs.Listing.{entries_at}
use Rattle.pg_directory.specs.Looking.{DiskHolds}
use Rattle.pg_directory.specs.OpenStore.{ArePlaces}
use Rattle.pg_directory.specs.Trees.{StorePage, kind_of}
use Rattle.pg_heap.proofs.OwnerCounts.{content_from}
use Rattle.pg_heap.proofs.owner_counting.count_owners.Given as goal

abbrev pub invariant-loop-i : goal.invariant-loop-i
invariant-loop-i g l = record {
  cache : IsCacheOf (g.D.Disk.disk l.disk) l.journal l.cache;
  same : IsSame (g.D.Disk.disk l.fn.disk) (g.D.Disk.disk l.disk);
  reads : ReadsDisk {T = Unit {0}} (g.D.Disk.disk l.fn.disk) (g.D.Disk.disk l.disk) (Ok tt);
  few : (p : List ℕ) → prefix_count p l.counts ≤ l.i;
  counts : (top : ℕ) (pages : List StorePage) (m : Content) → DiskHolds (g.D.Disk.disk l.fn.disk) l.journal top pages → IsLayout (map kind_of pages) m → ArePlaces pages l.places
      → AreCounts (content_from (entries_at pages (take l.i l.places))) l.counts;
}
