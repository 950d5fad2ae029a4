use Rattle.std.proofs.Common.{◌≡◌, length}
use Rattle.tx_tags.specs.Groups.{are_distinct, tag_names}
use Rattle.tx_tags.proofs.rules.have_distinct_tags.Given as goal

abbrev pub invariant-loop-rest : goal.invariant-loop-rest
invariant-loop-rest l = are_distinct (tag_names l.rest) ≡ are_distinct (tag_names l.sections)

abbrev pub decreases-loop-rest : goal.decreases-loop-rest
decreases-loop-rest l = length l.rest
