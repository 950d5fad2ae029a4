use Rattle.std.proofs.Common.{◌≡◌, ◌+◌, length}
use Rattle.tx_document.specs.Fields.{tag_count}
use Rattle.tx_document.proofs.extents.tag_count.Given as goal

abbrev pub invariant-loop-rest : goal.invariant-loop-rest
invariant-loop-rest l = l.count + tag_count l.rest ≡ tag_count l.sections

abbrev pub decreases-loop-rest : goal.decreases-loop-rest
decreases-loop-rest l = length l.rest
