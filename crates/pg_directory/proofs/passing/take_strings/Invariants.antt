use Rattle.std.specs.Prelude.{map, true}
use Rattle.std.proofs.Common.{take}
use Rattle.pg_directory.specs.FirstPass.{far_of, TakesStrings}
use Rattle.pg_directory.proofs.passing.take_strings.Given as goal

abbrev pub invariant-loop-i : goal.invariant-loop-i
invariant-loop-i l = TakesStrings true (take l.i l.page) (map far_of l.fn.far.items) (map far_of l.far.items)
