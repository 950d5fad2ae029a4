use Rattle.std.proofs.Common.{◌≡◌, ◌++◌}
use Rattle.pg_directory.specs.Telling.{children_in}
use Rattle.pg_directory.proofs.levels.take_items.Given as goal

abbrev pub invariant-loop-i : goal.invariant-loop-i
invariant-loop-i l = l.into.items ≡ l.fn.into.items ++ children_in l.page l.i
