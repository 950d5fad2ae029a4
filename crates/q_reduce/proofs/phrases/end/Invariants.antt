use Rattle.std.proofs.Common.{◌≡◌, ◌≤◌, take}
use Rattle.q_reduce.specs.Reducing.{end_dropped}
use Rattle.q_reduce.proofs.phrases.end.Given as goal

abbrev pub invariant-loop-slot : goal.invariant-loop-slot
invariant-loop-slot l = record {
  place : l.place ≡ l.slot-index;
  within : l.end ≤ l.place;
  so_far : take l.end l.slots ≡ end_dropped (take l.slot-index l.slots);
}
