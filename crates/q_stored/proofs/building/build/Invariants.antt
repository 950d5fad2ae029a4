use Rattle.std.proofs.Common.{◌≡◌, [], length}
use Rattle.q_stored.specs.Building.{stack_after, reduced_stack}
use Rattle.q_stored.proofs.building.build.Given as goal

abbrev pub invariant-heads : goal.invariant-heads
invariant-heads l = stack_after l.rest.items (reduced_stack l.queries.items) ≡ stack_after l.fn.heads.items []

abbrev pub decreases-heads : goal.decreases-heads
decreases-heads l = length l.rest.items
