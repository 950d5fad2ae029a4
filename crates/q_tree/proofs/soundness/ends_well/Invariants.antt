use Rattle.std.proofs.Common.{◌≡◌, length}
use Rattle.q_tree.specs.Soundness.{ends_well}
use Rattle.q_tree.proofs.soundness.ends_well.Given as goal

abbrev pub invariant-loop-rest : goal.invariant-loop-rest
invariant-loop-rest l = ends_well l.rest ≡ ends_well l.slots

abbrev pub decreases-loop-rest : goal.decreases-loop-rest
decreases-loop-rest l = length l.rest
