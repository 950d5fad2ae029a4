use Rattle.std.proofs.Common.{◌≡◌, ◌++◌, length}
use Rattle.tx_tags.specs.Groups.{are_distinct, tag_names}
use Rattle.tx_tags.proofs.rules.are_apart.Given as goal

abbrev pub invariant-loop-rest : goal.invariant-loop-rest
invariant-loop-rest l = are_distinct (l.rest ++ tag_names l.later) ≡ are_distinct (l.tags ++ tag_names l.later)

abbrev pub decreases-loop-rest : goal.decreases-loop-rest
decreases-loop-rest l = length l.rest
