use Rattle.pg_leaves.proofs.Placings.{IsPlacing}
use Rattle.pg_leaves.proofs.placing.place_leaves.Given as goal

abbrev pub invariant-loop-leaf : goal.invariant-loop-leaf
invariant-loop-leaf l = IsPlacing l.fn.now.items l.numbers l.leaf-iterator.rest.items l.rest l.children.items l.written.items
