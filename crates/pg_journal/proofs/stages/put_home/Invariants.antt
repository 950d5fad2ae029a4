use Rattle.std.proofs.Common.{ℕ, List, Ok, drop, ◌≡◌}
use Rattle.ct_site.specs.Disks.{IsSettled, Leaves, Works}
use Rattle.ct_site.specs.Lengths.{Lengthens}
use Rattle.ct_site.specs.Writing.{DiskGives}
use Rattle.pg_journal.specs.Staging.{IsSettling, IsPartHome}
use Rattle.pg_journal.proofs.stages.put_home.Given as goal

abbrev pub invariant-loop-i : goal.invariant-loop-i
invariant-loop-i g l = record {
  leaves : (place : ℕ) (aim : ℕ → List ℕ) (image : List ℕ) → IsSettled (g.D.Disk.disk l.fn.disk) image → IsSettling place (g.B.ChangedPages.pages l.batch) aim image
      → Leaves (g.D.Disk.disk l.fn.disk) (g.D.Disk.disk l.disk) (IsSettling place (g.B.ChangedPages.pages l.batch) aim);
  gives : (place : ℕ) (aim : ℕ → List ℕ) (image : List ℕ) → IsSettled (g.D.Disk.disk l.fn.disk) image → IsSettling place (g.B.ChangedPages.pages l.batch) aim image
      → DiskGives (IsPartHome place (g.B.ChangedPages.pages l.batch) (drop l.i (g.B.ChangedPages.pages l.batch)) aim) (g.D.Disk.disk l.disk);
  length : Lengthens 0 (g.D.Disk.disk l.fn.disk) (g.D.Disk.disk l.disk);
  syncs : (g.D.Disk.disk l.disk).syncs ≡ (g.D.Disk.disk l.fn.disk).syncs;
  works : Works {T = Unit {0}} (g.D.Disk.disk l.fn.disk) (g.D.Disk.disk l.disk) (Ok tt);
}
