use Rattle.std.proofs.Common.{◌≡◌, ◌-◌, ℕ, List, ◌++◌, length}
use Rattle.pg_change.proofs.rebuilding.pad.Given as goal

abbrev pub invariant-loop-numbers : goal.invariant-loop-numbers
invariant-loop-numbers l = (more : List ℕ) × (l.numbers.items ≡ l.fn.numbers.items ++ more)

abbrev pub decreases-loop-numbers : goal.decreases-loop-numbers
decreases-loop-numbers l = l.count - length l.numbers.items
