use Rattle.std.proofs.Common.{◌≡◌, ◌++◌, take}
use Rattle.pg_directory.specs.Levels.{pages_of}
use Rattle.pg_leaves.proofs.parting.put_gone.Given as goal

abbrev pub invariant-loop-leaf : goal.invariant-loop-leaf
invariant-loop-leaf l = l.gone.items ≡ l.fn.gone.items ++ pages_of (take l.leaf-index l.leaves)
