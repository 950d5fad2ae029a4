use Rattle.std.proofs.Common.{◌-◌, ◌≡◌, ◌≤◌, ◌+◌, Ok}
use Rattle.ct_base.specs.Zeros.{zeros}
use Rattle.ct_site.specs.Disks.{Works}
use Rattle.ct_site.specs.Lengths.{IsWithin}
use Rattle.ct_site.specs.Writing.{Writes}
use Rattle.pg_journal.proofs.writing.write_zeros.Given as goal

abbrev pub invariant-loop-done : goal.invariant-loop-done
invariant-loop-done g l = record {
  most : l.done ≤ l.count;
  within : IsWithin (l.at + l.done) (g.D.Disk.disk l.disk);
  writes : Writes l.at (zeros l.done) (g.D.Disk.disk l.fn.disk) (g.D.Disk.disk l.disk) (Ok tt);
  syncs : (g.D.Disk.disk l.disk).syncs ≡ (g.D.Disk.disk l.fn.disk).syncs;
  works : Works {T = Unit {0}} (g.D.Disk.disk l.fn.disk) (g.D.Disk.disk l.disk) (Ok tt);
}

abbrev pub decreases-loop-done : goal.decreases-loop-done
decreases-loop-done g l = l.count - l.done
