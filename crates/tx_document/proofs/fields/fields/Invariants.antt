use Rattle.std.proofs.Common.{◌≡◌, ◌+◌, ◌≤◌, ◌++◌, length}
use Rattle.tx_document.specs.Fields.{fields}
use Rattle.tx_document.specs.Ranges.{marked_fields}
use Rattle.tx_document.proofs.fields.fields.Given as goal

abbrev pub invariant-loop-rest : goal.invariant-loop-rest
invariant-loop-rest l = record {
  few : l.stream + fields l.rest ≤ 65;
  so_far : l.found.items ++ marked_fields l.tokens l.stream l.rest ≡ marked_fields l.tokens 1 l.extents;
}

abbrev pub decreases-loop-rest : goal.decreases-loop-rest
decreases-loop-rest l = length l.rest
