use Rattle.std.proofs.Common.{false, length, take, ◌-◌, ◌≤◌}
use Rattle.db_console.specs.Views.{Spoke}
use Rattle.db_console.proofs.saying.say_all.Given as goal

abbrev pub invariant-loop-at : goal.invariant-loop-at
invariant-loop-at g l = record {
  within : l.at ≤ length l.bytes;
  spoke : Spoke false (take l.at l.bytes) (g.K.Keeper.view l.fn.keeper) (g.K.Keeper.view l.keeper);
}

abbrev pub decreases-loop-at : goal.decreases-loop-at
decreases-loop-at g l = length l.bytes - l.at
