use Rattle.pg_change.proofs.Directories.{HasTaken}
use Rattle.pg_change.proofs.rebuilding.take_numbers.Given as goal

abbrev pub invariant-loop : goal.invariant-loop
invariant-loop l = HasTaken l.fn.draft l.draft l.fn.hints.free l.hints.free l.numbers.items l.counter
