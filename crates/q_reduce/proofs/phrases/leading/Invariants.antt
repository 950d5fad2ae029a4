use Rattle.std.proofs.Common.{◌≡◌, ◌+◌, length, drop}
use Rattle.q_reduce.specs.Reducing.{front_dropped}
use Rattle.q_reduce.proofs.phrases.leading.Given as goal

abbrev pub invariant-loop-rest : goal.invariant-loop-rest
invariant-loop-rest l = record {
  place : l.count + length l.rest ≡ length l.slots;
  rest : drop l.count l.slots ≡ l.rest;
  same : front_dropped l.rest ≡ front_dropped l.slots;
}

abbrev pub decreases-loop-rest : goal.decreases-loop-rest
decreases-loop-rest l = length l.rest
