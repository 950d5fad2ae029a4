use Rattle.std.proofs.Common.{◌≡◌, ◌++◌, take}
use Rattle.pg_directory.specs.Levels.{pages_of}
use Rattle.pg_directory.proofs.levels_down.add_numbers.Given as goal

abbrev pub invariant-loop-child : goal.invariant-loop-child
invariant-loop-child l = l.numbers.items ≡ l.fn.numbers.items ++ pages_of (take l.child-index l.fn.children)
