use Rattle.std.proofs.Common.{◌≡◌, ◌≤◌, ◌+◌, ℕ, List, Ok, length}
use Rattle.ct_site.specs.Disks.{IsSame}
use Rattle.pg_map.specs.Kinds.{Each}
use Rattle.pg_cache.specs.Caches.{IsCacheOf}
use Rattle.pg_directory.specs.Fetching.{ReadsDisk}
use Rattle.pg_directory.specs.Levels.{leasts_of, AreLeaves}
use Rattle.pg_directory.specs.Looking.{DiskHolds}
use Rattle.pg_directory.specs.Trees.{StorePage, key_at, HasString, Rise}
use Rattle.pg_directory.specs.declared.entries.EntryAt.{EntryAt}
use Rattle.pg_leaves.specs.Editing.{edits_of, Rising}
use Rattle.pg_leaves.specs.Relisting.{made_count}
use Rattle.pg_leaves.proofs.Steps.{ArePagesSoFar, IsSoFar}
use Rattle.pg_leaves.proofs.relisting.relist.Given as goal

abbrev pub invariant-loop-leasts : goal.invariant-loop-leasts
invariant-loop-leasts g l = record {
  leasts : l.leasts ≡ leasts_of l.rest;
  left : length l.later ≤ length l.edits;
  few : length l.now.items + length l.rest + length l.later ≤ length l.leaves + length l.edits;
  gone : length l.gone.items + length l.later ≤ length l.edits;
  made : made_count l.now.items + length l.later ≤ length l.gone.items + length l.edits;
  pages : ArePagesSoFar l.leaves l.now.items l.gone.items l.rest;
  cache : IsCacheOf (g.D.Disk.disk l.disk) l.journal l.cache;
  same : IsSame (g.D.Disk.disk l.fn.disk) (g.D.Disk.disk l.disk);
  reads : ReadsDisk {T = Unit {0}} (g.D.Disk.disk l.fn.disk) (g.D.Disk.disk l.disk) (Ok tt);
  so_far : (top : ℕ) (pages : List StorePage) (es : List EntryAt) → DiskHolds (g.D.Disk.disk l.fn.disk) l.journal top pages → AreLeaves pages l.leaves es → Each (HasString pages) es → Rise (key_at pages) es
      → Rising (edits_of l.edits) → IsSoFar pages es (edits_of l.edits) l.now.items l.rest (edits_of l.later);
}

abbrev pub decreases-loop-leasts : goal.decreases-loop-leasts
decreases-loop-leasts g l = length l.later
