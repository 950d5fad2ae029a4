use Rattle.std.proofs.Common.{◌≤◌, ◌+◌, ◌-◌, length}
use Rattle.pg_leaves.proofs.Makings.{IsMaking}
use Rattle.pg_leaves.proofs.parting.put_leaves.Given as goal

abbrev pub invariant-loop-rest : goal.invariant-loop-rest
invariant-loop-rest l = record {
  making : IsMaking l.fn.into.items l.into.items l.places l.rest;
  few : length l.into.items + length l.rest ≤ length l.fn.into.items + length l.places;
  left : 1 ≤ length l.rest → length l.into.items + (length l.rest - 681) ≤ length l.fn.into.items + (length l.places - 681);
  fewer : length l.into.items ≤ length l.fn.into.items + 1 + (length l.places - 681);
}

abbrev pub decreases-loop-rest : goal.decreases-loop-rest
decreases-loop-rest l = length l.rest
