use Rattle.std.proofs.Common.{◌≡◌, ◌≤◌, ◌^◌, ℕ, List, Some, Ok, length}
use Rattle.ct_site.specs.Disks.{IsSame, Works}
use Rattle.pg_journal.specs.Recovered.{batch_page, batch_count}
use Rattle.pg_journal.specs.Pages.{AreBetween}
use Rattle.pg_journal.specs.Looking.{IsRead}
use Rattle.pg_journal.proofs.batch_reading.read_pages.Given as goal

abbrev pub invariant-loop-i : goal.invariant-loop-i
invariant-loop-i g l = record {
  least : 2 ≤ l.low;
  low : l.low ≤ 2 ^ 32;
  within : l.i ≤ l.count;
  read : (image : List ℕ) → (g.D.Disk.disk l.fn.disk).image ≡ Some image → l.place ≡ batch_page image → l.count ≡ batch_count image → IsRead image l.count l.low l.i l.batch.pages;
  numbers : AreBetween 2 l.low l.batch.pages;
  count : length l.batch.pages ≡ l.i;
  room : l.batch.room ≡ l.count;
  same : IsSame (g.D.Disk.disk l.fn.disk) (g.D.Disk.disk l.disk);
  works : Works {T = Unit {0}} (g.D.Disk.disk l.fn.disk) (g.D.Disk.disk l.disk) (Ok tt);
}
