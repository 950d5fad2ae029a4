use Rattle.std.proofs.Common.{◌≡◌, length}
use Rattle.pg_directory.specs.Placing.{keys_kept, rise_in_turn}
use Rattle.pg_directory.proofs.placing.are_rising.Given as goal

abbrev pub invariant-loop-rest : goal.invariant-loop-rest
invariant-loop-rest l = rise_in_turn (keys_kept l.rest) ≡ rise_in_turn (keys_kept l.keys)

abbrev pub decreases-loop-rest : goal.decreases-loop-rest
decreases-loop-rest l = length l.rest
