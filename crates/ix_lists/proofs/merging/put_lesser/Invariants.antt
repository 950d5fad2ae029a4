use Rattle.std.proofs.Common.{◌≡◌, ◌++◌, drop}
use Rattle.ix_lists.specs.Numbers.{lesser}
use Rattle.ix_lists.proofs.merging.put_lesser.Given as goal

abbrev pub invariant-loop-number : goal.invariant-loop-number
invariant-loop-number l = l.out.items ++ lesser l.limit (drop l.number-index l.numbers) ≡ l.fn.out.items ++ lesser l.limit l.numbers
