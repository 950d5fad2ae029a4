use Rattle.std.proofs.Common.{◌≡◌, ◌+◌, ◌≤◌, ◌++◌, length}
use Rattle.tx_document.specs.Fields.{tag_count}
use Rattle.tx_document.specs.TagSpans.{extents_by}
use Rattle.tx_document.proofs.extents.extents_by.Given as goal

abbrev pub invariant-loop-rest : goal.invariant-loop-rest
invariant-loop-rest l = record {
  few : l.number + tag_count l.rest ≤ length l.all;
  so_far : l.found.items ++ extents_by l.all l.number l.rest ≡ extents_by l.all 0 l.sections;
}

abbrev pub decreases-loop-rest : goal.decreases-loop-rest
decreases-loop-rest l = length l.rest
