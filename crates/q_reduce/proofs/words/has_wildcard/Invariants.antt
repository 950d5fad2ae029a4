use Rattle.std.proofs.Common.{◌≡◌, length}
use Rattle.q_tree.specs.Limits.{has_wildcard}
use Rattle.q_reduce.proofs.words.has_wildcard.Given as goal

abbrev pub invariant-loop-rest : goal.invariant-loop-rest
invariant-loop-rest l = has_wildcard l.rest ≡ has_wildcard l.bits

abbrev pub decreases-loop-rest : goal.decreases-loop-rest
decreases-loop-rest l = length l.rest
