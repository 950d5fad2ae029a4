use Rattle.std.proofs.Common.{◌≡◌, ◌+◌, length}
use Rattle.tx_tags.specs.Groups.{tag_names}
use Rattle.tx_tags.proofs.rules.tag_count.Given as goal

abbrev pub invariant-loop-rest : goal.invariant-loop-rest
invariant-loop-rest l = l.count + length (tag_names l.rest) ≡ length (tag_names l.sections)

abbrev pub decreases-loop-rest : goal.decreases-loop-rest
decreases-loop-rest l = length l.rest
