use Rattle.std.proofs.Common.{◌≡◌}
use Rattle.pg_directory.specs.Numbering.{numbers_from}
use Rattle.pg_directory.proofs.numbering.numbers_from.Given as goal

abbrev pub invariant-loop-i : goal.invariant-loop-i
invariant-loop-i l = l.numbers.items ≡ numbers_from l.free l.homes l.i
