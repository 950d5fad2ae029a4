use Rattle.std.proofs.Common.{◌≡◌, length}
use Rattle.q_tree.specs.Soundness.{slot_keys_rise}
use Rattle.q_tree.proofs.soundness.rise.Given as goal

abbrev pub invariant-loop-rest : goal.invariant-loop-rest
invariant-loop-rest l = slot_keys_rise l.rest ≡ slot_keys_rise l.keys

abbrev pub decreases-loop-rest : goal.decreases-loop-rest
decreases-loop-rest l = length l.rest
