use Rattle.std.proofs.Common.{◌≡◌, length}
use Rattle.ix_lists.specs.Numbers.{greater}
use Rattle.ix_lists.proofs.merging.greater.Given as goal

abbrev pub invariant-loop-rest : goal.invariant-loop-rest
invariant-loop-rest l = greater l.limit l.rest ≡ greater l.limit l.numbers

abbrev pub decreases-loop-rest : goal.decreases-loop-rest
decreases-loop-rest l = length l.rest
