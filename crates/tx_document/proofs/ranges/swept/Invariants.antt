use Rattle.std.proofs.Common.{◌≡◌, ◌+◌, ◌++◌, length}
use Rattle.tx_document.specs.Ranges.{swept}
use Rattle.tx_document.proofs.ranges.swept.Given as goal

abbrev pub invariant-loop-rest : goal.invariant-loop-rest
invariant-loop-rest l = record {
  count : l.place + length l.rest ≡ length l.reach;
  so_far : l.marks.items ++ swept l.far l.place l.rest ≡ swept 0 0 l.reach;
}

abbrev pub decreases-loop-rest : goal.decreases-loop-rest
decreases-loop-rest l = length l.rest
