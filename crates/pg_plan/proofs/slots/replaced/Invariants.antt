use Rattle.pg_plan.proofs.Copying.{Replaces}
use Rattle.pg_plan.proofs.slots.replaced.Given as goal

abbrev pub invariant-loop-i : goal.invariant-loop-i
invariant-loop-i l = Replaces l.page l.slot l.string l.i l.rest
