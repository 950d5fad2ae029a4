use Rattle.std.proofs.Common.{◌≡◌, length, map}
use Rattle.tx_tags.specs.Groups.{is_among}
use Rattle.tx_tags.proofs.rules.have_name.Given as goal

abbrev pub invariant-loop-rest : goal.invariant-loop-rest
invariant-loop-rest l = is_among l.name (map (λ s. s.name) l.rest) ≡ is_among l.name (map (λ s. s.name) l.sections)

abbrev pub decreases-loop-rest : goal.decreases-loop-rest
decreases-loop-rest l = length l.rest
