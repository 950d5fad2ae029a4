use Rattle.std.proofs.Common.{ℕ, List, Ok, take}
use Rattle.ct_site.specs.Disks.{IsSame, Works}
use Rattle.pg_map.specs.Kinds.{Each}
use Rattle.pg_cache.specs.Caches.{IsCacheOf}
use Rattle.pg_directory.specs.Looking.{DiskHolds}
use Rattle.pg_directory.specs.Trees.{StorePage, HasString}
use Rattle.pg_leaves.specs.Editing.{KeyEdit, edits_of}
use Rattle.pg_leaves.specs.Finding.{ComesBefore}
use Rattle.pg_leaves.proofs.finding.edits_before.Given as goal

abbrev pub invariant-loop-i : goal.invariant-loop-i
invariant-loop-i g l = record {
  cache : IsCacheOf (g.D.Disk.disk l.disk) l.journal l.cache;
  same : IsSame (g.D.Disk.disk l.fn.disk) (g.D.Disk.disk l.disk);
  works : Works {T = Unit {0}} (g.D.Disk.disk l.fn.disk) (g.D.Disk.disk l.disk) (Ok tt);
  before : (top : ℕ) (pages : List StorePage) → DiskHolds (g.D.Disk.disk l.fn.disk) l.journal top pages → Each (HasString pages) l.entries
      → Each (λ (u : KeyEdit). ComesBefore pages l.entries u.0) (take l.i (edits_of l.edits));
}
