use Rattle.std.proofs.Common.{false, length, take, ◌-◌, ◌≤◌}
use Rattle.db_console.specs.Generating.{SaysTo}
use Rattle.db_console.proofs.saying.say_to.Given as goal

abbrev pub invariant-loop-at : goal.invariant-loop-at
invariant-loop-at g l = record {
  within : l.at ≤ length l.bytes;
  says : SaysTo false (take l.at l.bytes) (g.S.Disk.disk l.fn.site) (g.S.Disk.disk l.site);
}

abbrev pub decreases-loop-at : goal.decreases-loop-at
decreases-loop-at g l = length l.bytes - l.at
