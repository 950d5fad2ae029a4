use Rattle.std.proofs.Common.{◌≡◌, ◌≤◌, ◌+◌, ◌-◌, ◌++◌, ℕ, List, Ok, length, drop}
use Rattle.ct_site.specs.Disks.{IsSame}
use Rattle.pg_map.specs.Kinds.{Each}
use Rattle.pg_cache.specs.Caches.{IsCacheOf}
use Rattle.pg_directory.specs.Fetching.{ReadsDisk}
use Rattle.pg_directory.specs.Looking.{DiskHolds}
use Rattle.pg_directory.specs.Trees.{StorePage, key_at, HasString, Rise}
use Rattle.pg_leaves.specs.Editing.{edits_of, places_edited}
use Rattle.pg_leaves.proofs.editing.edit_places.Given as goal

abbrev pub invariant-loop-i : goal.invariant-loop-i
invariant-loop-i g l = record {
  within : l.done ≤ length l.places;
  few : length l.all.items + (length l.places - l.done) ≤ length l.places + l.i;
  cache : IsCacheOf (g.D.Disk.disk l.disk) l.journal l.cache;
  same : IsSame (g.D.Disk.disk l.fn.disk) (g.D.Disk.disk l.disk);
  reads : ReadsDisk {T = Unit {0}} (g.D.Disk.disk l.fn.disk) (g.D.Disk.disk l.disk) (Ok tt);
  edited : (top : ℕ) (pages : List StorePage) → DiskHolds (g.D.Disk.disk l.fn.disk) l.journal top pages → Each (HasString pages) l.places → Rise (key_at pages) l.places
      → places_edited pages l.places (edits_of l.edits) ≡ l.all.items ++ places_edited pages (drop l.done l.places) (drop l.i (edits_of l.edits));
}
