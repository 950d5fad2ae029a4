use Rattle.std.proofs.Common.{◌≤◌, ◌++◌, ℕ, List, take, Ok}
use Rattle.ct_site.specs.Disks.{IsSame}
use Rattle.pg_cache.specs.Caches.{IsCacheOf}
use Rattle.pg_directory.specs.declared.entries.EntryAt.{EntryAt}
use Rattle.pg_directory.specs.Pages.{Leaf}
use Rattle.pg_directory.specs.Telling.{IsTold}
use Rattle.pg_directory.specs.Trees.{StorePage}
use Rattle.pg_directory.specs.Looking.{DiskHolds}
use Rattle.pg_directory.specs.Fetching.{ReadsDisk}
use Rattle.pg_directory.specs.Walking.{IsWalked}
use Rattle.pg_directory.proofs.walking.walk_leaf.Given as goal

abbrev pub invariant-loop-i : goal.invariant-loop-i
invariant-loop-i g l = record {
  within : l.count ≤ l.limit;
  cache : IsCacheOf (g.D.Disk.disk l.disk) l.journal l.cache;
  same : IsSame (g.D.Disk.disk l.fn.disk) (g.D.Disk.disk l.disk);
  reads : ReadsDisk {T = Unit {0}} (g.D.Disk.disk l.fn.disk) (g.D.Disk.disk l.disk) (Ok tt);
  walked : (top : ℕ) (pages : List StorePage) (done own : List EntryAt) → DiskHolds (g.D.Disk.disk l.fn.disk) l.journal top pages → IsWalked pages done l.before l.fn.key.items → IsTold l.page (Leaf own)
      → IsWalked pages (done ++ take l.i own) l.count l.key.items;
}
