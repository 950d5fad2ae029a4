use Rattle.pg_plan.proofs.Copying.{Unfound}
use Rattle.pg_plan.proofs.slots.find.Given as goal

abbrev pub invariant-loop-i : goal.invariant-loop-i
invariant-loop-i l = Unfound l.page l.key l.i
