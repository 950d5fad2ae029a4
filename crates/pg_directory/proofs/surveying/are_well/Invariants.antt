use Rattle.std.specs.Prelude.{map}
use Rattle.std.proofs.Common.{ℕ, List, take, Ok}
use Rattle.ct_site.specs.Disks.{IsSame}
use Rattle.ct_keep.specs.Changes.{IsWell}
use Rattle.ct_keep.specs.Content.{Content}
use Rattle.pg_cache.specs.Caches.{IsCacheOf}
use Rattle.pg_map.specs.Holding.{IsLayout}
use Rattle.pg_map.specs.Kinds.{Each}
use Rattle.pg_directory.specs.Fetching.{ReadsDisk}
use Rattle.pg_directory.specs.Listing.{entry_at}
use Rattle.pg_directory.specs.Looking.{DiskHolds}
use Rattle.pg_directory.specs.OpenStore.{ArePlaces}
use Rattle.pg_directory.specs.Trees.{StorePage, kind_of}
use Rattle.pg_directory.specs.declared.entries.EntryAt.{EntryAt}
use Rattle.pg_directory.proofs.surveying.are_well.Given as goal

abbrev pub invariant-loop-i : goal.invariant-loop-i
invariant-loop-i g l = record {
  cache : IsCacheOf (g.D.Disk.disk l.disk) l.journal l.cache;
  same : IsSame (g.D.Disk.disk l.fn.disk) (g.D.Disk.disk l.disk);
  reads : ReadsDisk {T = Unit {0}} (g.D.Disk.disk l.fn.disk) (g.D.Disk.disk l.disk) (Ok tt);
  well : (top : ℕ) (pages : List StorePage) (m : Content) → DiskHolds (g.D.Disk.disk l.fn.disk) l.journal top pages → IsLayout (map kind_of pages) m → ArePlaces pages l.places
      → Each (λ (e : EntryAt). IsWell (g.H.Shape.is_well l.shape) (entry_at pages e).0 (entry_at pages e).1) (take l.i l.places);
}
