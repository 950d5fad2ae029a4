use Rattle.std.proofs.Common.{◌≡◌, length}
use Rattle.rs_result.specs.Comparing.{rank_cmp, ranked}
use Rattle.rs_result.proofs.ordering.row_cmp.Given as goal

abbrev pub invariant-loop-rest : goal.invariant-loop-rest
invariant-loop-rest g l = rank_cmp l.rest (ranked l.row) (ranked l.other) ≡ rank_cmp l.by (ranked l.row) (ranked l.other)

abbrev pub decreases-loop-rest : goal.decreases-loop-rest
decreases-loop-rest g l = length l.rest
