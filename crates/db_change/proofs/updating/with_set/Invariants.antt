use Rattle.std.proofs.Common.{◌≡◌, ◌++◌, drop}
use Rattle.db_change.specs.Updating.{with_set}
use Rattle.db_change.proofs.updating.with_set.Given as goal

abbrev pub invariant-loop-place : goal.invariant-loop-place
invariant-loop-place l = l.after.items ++ with_set (drop l.place l.set) (drop l.place l.numbers) ≡ with_set l.set l.numbers
