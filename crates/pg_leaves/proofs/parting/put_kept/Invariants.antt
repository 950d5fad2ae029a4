use Rattle.std.proofs.Common.{◌≡◌, ◌++◌, take}
use Rattle.pg_leaves.specs.Relisting.{kept_leaves}
use Rattle.pg_leaves.proofs.parting.put_kept.Given as goal

abbrev pub invariant-loop-leaf : goal.invariant-loop-leaf
invariant-loop-leaf l = l.into.items ≡ l.fn.into.items ++ kept_leaves (take l.leaf-index l.leaves)
