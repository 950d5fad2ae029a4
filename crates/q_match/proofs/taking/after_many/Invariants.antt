use Rattle.std.proofs.Common.{◌≡◌, ◌++◌, false, drop}
use Rattle.q_match.specs.Places.{spread}
use Rattle.q_match.proofs.taking.after_many.Given as goal

abbrev pub invariant-loop-mark : goal.invariant-loop-mark
invariant-loop-mark l = l.out.items ++ spread l.before (drop l.mark-index l.marks) ≡ spread false l.marks
