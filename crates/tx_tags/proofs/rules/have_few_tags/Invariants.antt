use Rattle.std.proofs.Common.{◌≡◌, ◌+◌, length}
use Rattle.tx_tags.specs.Groups.{tag_names}
use Rattle.tx_tags.proofs.rules.have_few_tags.Given as goal

abbrev pub invariant-loop-rest : goal.invariant-loop-rest
invariant-loop-rest l = length (tag_names l.sections) + l.left ≡ 256 + length (tag_names l.rest)

abbrev pub decreases-loop-rest : goal.decreases-loop-rest
decreases-loop-rest l = length l.rest
