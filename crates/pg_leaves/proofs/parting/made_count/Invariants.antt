use Rattle.std.proofs.Common.{◌≡◌, ◌≤◌, take}
use Rattle.pg_leaves.specs.Relisting.{made_count}
use Rattle.pg_leaves.proofs.parting.made_count.Given as goal

abbrev pub invariant-loop-i : goal.invariant-loop-i
invariant-loop-i l = record {
  most : l.count ≤ l.i;
  is : l.count ≡ made_count (take l.i l.leaves);
}
