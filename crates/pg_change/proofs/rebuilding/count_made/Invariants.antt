use Rattle.std.proofs.Common.{◌≡◌, take}
use Rattle.pg_leaves.specs.Relisting.{made_count}
use Rattle.pg_change.proofs.rebuilding.count_made.Given as goal

abbrev pub invariant-loop-i : goal.invariant-loop-i
invariant-loop-i l = l.made ≡ made_count (take l.i l.leaves)
