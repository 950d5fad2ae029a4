use Rattle.std.proofs.Common.{◌≡◌, ◌+◌, length}
use Rattle.tx_stop.specs.StopKeys.{key_place}
use Rattle.q_reduce.proofs.keys.key_place.Given as goal

abbrev pub invariant-loop-rest : goal.invariant-loop-rest
invariant-loop-rest l = record {
  within : l.place + length l.rest ≡ length l.keys;
  so_far : key_place l.key l.rest + l.place ≡ key_place l.key l.keys;
}

abbrev pub decreases-loop-rest : goal.decreases-loop-rest
decreases-loop-rest l = length l.rest
