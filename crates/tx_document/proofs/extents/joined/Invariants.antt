use Rattle.std.proofs.Common.{◌≡◌, ◌+◌, ◌≤◌, ◌++◌, length}
use Rattle.tx_document.specs.TagSpans.{joined_from}
use Rattle.tx_document.proofs.extents.joined.Given as goal

abbrev pub invariant-loop-rest : goal.invariant-loop-rest
invariant-loop-rest l = record {
  few : l.number + length l.rest ≤ length l.all;
  so_far : l.found.items ++ joined_from l.all l.number l.rest ≡ joined_from l.all l.first l.names;
}

abbrev pub decreases-loop-rest : goal.decreases-loop-rest
decreases-loop-rest l = length l.rest
