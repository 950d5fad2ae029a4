use Rattle.std.proofs.Common.{length, drop, ◌-◌, ◌+◌, ◌*◌, ◌≡◌, ◌≤◌, ◌<◌, Ok}
use Rattle.ct_site.specs.Disks.{Works}
use Rattle.ct_site.specs.Writing.{Progress}
use Rattle.pg_journal.proofs.BatchPages.{number_area}
use Rattle.pg_journal.proofs.writing.write_numbers.Given as goal

abbrev pub invariant-loop-done : goal.invariant-loop-done
invariant-loop-done g l = record {
  most : l.done ≤ length l.numbers;
  place : l.done < length l.numbers → l.next ≡ l.at + 4 * l.done;
  progress : Progress l.at l.next (number_area l.numbers) (number_area (drop l.done l.numbers)) (g.D.Disk.disk l.fn.disk) (g.D.Disk.disk l.disk);
  syncs : (g.D.Disk.disk l.disk).syncs ≡ (g.D.Disk.disk l.fn.disk).syncs;
  works : Works {T = Unit {0}} (g.D.Disk.disk l.fn.disk) (g.D.Disk.disk l.disk) (Ok tt);
}

abbrev pub decreases-loop-done : goal.decreases-loop-done
decreases-loop-done g l = length l.numbers - l.done
