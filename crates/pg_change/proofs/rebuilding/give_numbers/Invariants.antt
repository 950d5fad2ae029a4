use Rattle.pg_change.proofs.Directories.{HasGiven}
use Rattle.pg_change.proofs.rebuilding.give_numbers.Given as goal

abbrev pub invariant-loop-i : goal.invariant-loop-i
invariant-loop-i l = HasGiven l.fn.draft l.draft l.fn.hints.free l.hints.free l.numbers l.i
