use Rattle.std.proofs.Common.{◌≡◌, length, map}
use Rattle.tx_tags.specs.Groups.{are_distinct}
use Rattle.tx_tags.proofs.rules.have_distinct_names.Given as goal

abbrev pub invariant-loop-rest : goal.invariant-loop-rest
invariant-loop-rest l = are_distinct (map (λ s. s.name) l.rest) ≡ are_distinct (map (λ s. s.name) l.sections)

abbrev pub decreases-loop-rest : goal.decreases-loop-rest
decreases-loop-rest l = length l.rest
