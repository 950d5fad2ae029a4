use Rattle.std.proofs.Common.{◌≤◌, ◌<◌, ◌+◌, ℕ, List, Ok, length}
use Rattle.std.specs.BTreeMap.{IsOrdered}
use Rattle.std.specs.List.{Contains}
use Rattle.ct_site.specs.Disks.{IsSame}
use Rattle.ct_keep.specs.EntryKeys.{entry_key_order}
use Rattle.pg_cache.specs.Caches.{IsCacheOf}
use Rattle.pg_directory.specs.Fetching.{ReadsDisk}
use Rattle.pg_directory.specs.Looking.{DiskHolds}
use Rattle.pg_directory.specs.Trees.{StorePage}
use Rattle.pg_change.specs.NotedEdits.{EditMap, edit_map}
use Rattle.pg_change.specs.Unmoved.{ArePagesNoted}
use Rattle.pg_change.proofs.editing.note_pages.Given as goal

abbrev pub invariant-loop-rest : goal.invariant-loop-rest
invariant-loop-rest g l = record {
  within : (n : ℕ) → Contains l.rest n → (3 ≤ n) × (n < 3 + length l.draft.now);
  ordered : IsOrdered entry_key_order l.fn.edits → IsOrdered entry_key_order l.edits;
  cache : IsCacheOf (g.D.Disk.disk l.disk) l.journal l.cache;
  same : IsSame (g.D.Disk.disk l.fn.disk) (g.D.Disk.disk l.disk);
  reads : ReadsDisk {T = Unit {0}} (g.D.Disk.disk l.fn.disk) (g.D.Disk.disk l.disk) (Ok tt);
  noted : (top : ℕ) (pages : List StorePage) → DiskHolds (g.D.Disk.disk l.fn.disk) l.journal top pages → (all : EditMap) → ArePagesNoted pages l.draft.now l.rest (edit_map l.edits.entries) all
      → ArePagesNoted pages l.draft.now l.fn.numbers (edit_map l.fn.edits.entries) all;
}

abbrev pub decreases-loop-rest : goal.decreases-loop-rest
decreases-loop-rest g l = length l.rest
