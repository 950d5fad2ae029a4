use Rattle.std.specs.Prelude.{map}
use Rattle.std.proofs.Common.{◌≡◌, ℕ, List, length, Some, Ok}
use Rattle.ct_site.specs.Disks.{IsSame}
use Rattle.pg_directory.specs.Fetching.{ReadsDisk}
use Rattle.pg_directory.specs.FirstPass.{far_of}
use Rattle.pg_directory.proofs.Firsts.{IsPassed}
use Rattle.pg_directory.proofs.passing.first_pass.Given as goal

abbrev pub invariant-loop-i : goal.invariant-loop-i
invariant-loop-i g l = record {
  same : IsSame (g.D.Disk.disk l.fn.disk) (g.D.Disk.disk l.disk);
  count : length l.notes.items ≡ l.i;
  reads : ReadsDisk {T = Unit {0}} (g.D.Disk.disk l.fn.disk) (g.D.Disk.disk l.disk) (Ok tt);
  passed : (image : List ℕ) → (g.D.Disk.disk l.fn.disk).image ≡ Some image → IsPassed image l.i l.notes.items (map far_of l.far.items);
}
