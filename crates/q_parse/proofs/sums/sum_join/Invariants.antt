use Rattle.std.proofs.Common.{◌≡◌, vec_len}
use Rattle.q_parse.specs.Machine.{sum_joined}
use Rattle.q_parse.specs.Views.{stack_of}
use Rattle.q_parse.proofs.sums.sum_join.Given as goal

abbrev pub invariant-joins : goal.invariant-joins
invariant-joins l = sum_joined l.least (stack_of l.stack.items) l.out ≡ sum_joined l.least (stack_of l.fn.stack.items) l.fn.out

abbrev pub decreases-joins : goal.decreases-joins
decreases-joins l = vec_len l.stack
