use Rattle.std.proofs.Common.{drop, ◌+◌, ◌*◌, ◌≡◌, Ok}
use Rattle.ct_site.specs.Disks.{Works}
use Rattle.ct_site.specs.Writing.{Progress}
use Rattle.pg_journal.specs.Recovered.{images_bytes}
use Rattle.pg_journal.proofs.writing.write_images.Given as goal

abbrev pub invariant-loop-i : goal.invariant-loop-i
invariant-loop-i g l = record {
  progress : Progress l.at (l.at + 4096 * l.i) (images_bytes (g.B.ChangedPages.pages l.batch)) (images_bytes (drop l.i (g.B.ChangedPages.pages l.batch))) (g.D.Disk.disk l.fn.disk) (g.D.Disk.disk l.disk);
  syncs : (g.D.Disk.disk l.disk).syncs ≡ (g.D.Disk.disk l.fn.disk).syncs;
  works : Works {T = Unit {0}} (g.D.Disk.disk l.fn.disk) (g.D.Disk.disk l.disk) (Ok tt);
}
