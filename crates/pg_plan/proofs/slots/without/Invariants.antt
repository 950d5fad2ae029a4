use Rattle.pg_plan.proofs.Copying.{Copies}
use Rattle.pg_plan.proofs.slots.without.Given as goal

abbrev pub invariant-loop-i : goal.invariant-loop-i
invariant-loop-i l = Copies l.page l.slot l.i l.rest
