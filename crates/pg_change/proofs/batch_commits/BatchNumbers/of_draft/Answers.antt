use Rattle.std.proofs.Common.{ℕ, List, subst}
use Rattle.std.specs.List.{Contains}
use Rattle.pg_change.proofs.batch_commits.BatchNumbers.of_draft.Goals as goal

pub may_stand-requires : goal.may_stand-requires
may_stand-requires c = λ n has. c.in_ok-numbers.ensures.within n (subst (λ (l : List ℕ). Contains l n) c.deref.ensures.value has)
