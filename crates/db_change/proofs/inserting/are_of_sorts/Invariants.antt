use Rattle.std.proofs.Common.{◌≡◌, drop}
use Rattle.db_change.specs.Inserting.{are_of_sorts}
use Rattle.db_change.proofs.inserting.are_of_sorts.Given as goal

abbrev pub invariant-loop-place : goal.invariant-loop-place
invariant-loop-place l = are_of_sorts (drop l.place l.columns) (drop l.place l.values) ≡ are_of_sorts l.columns l.values
