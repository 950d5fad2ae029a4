use Rattle.std.proofs.Common.{◌≡◌, ◌++◌, length}
use Rattle.q_stored.proofs.anchoring.key_copies.Given as goal

abbrev pub invariant-loop-rest : goal.invariant-loop-rest
invariant-loop-rest l = l.copies.items ++ l.rest ≡ l.keys

abbrev pub decreases-loop-rest : goal.decreases-loop-rest
decreases-loop-rest l = length l.rest
