use Rattle.std.proofs.Common.{◌-◌, ◌≤◌, ◌*◌, ◌^◌, ◌≡◌, ℕ, List, Ok}
use Rattle.ct_site.specs.Disks.{Works, Leaves}
use Rattle.ct_site.specs.Lengths.{IsWithin}
use Rattle.pg_journal.specs.Standing.{IsShut}
use Rattle.pg_journal.proofs.stages.fill_from.Given as goal

abbrev pub invariant-loop-at : goal.invariant-loop-at
invariant-loop-at g l = record {
  past : l.fn.size ≤ l.at;
  within : IsWithin l.at (g.D.Disk.disk l.disk);
  leaves : (homes : ℕ) (ps : List (List ℕ)) → 4096 * homes ≤ l.fn.size → ((image : List ℕ) → (g.D.Disk.disk l.fn.disk).may_leave image → IsShut homes ps image) → Leaves (g.D.Disk.disk l.fn.disk) (g.D.Disk.disk l.disk) (IsShut homes ps);
  syncs : (g.D.Disk.disk l.disk).syncs ≡ (g.D.Disk.disk l.fn.disk).syncs;
  works : Works {T = Unit {0}} (g.D.Disk.disk l.fn.disk) (g.D.Disk.disk l.disk) (Ok tt);
}

abbrev pub decreases-loop-at : goal.decreases-loop-at
decreases-loop-at g l = 2 ^ 43 - l.at
