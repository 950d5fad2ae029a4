use Rattle.std.proofs.Common.{◌≡◌, length}
use Rattle.tx_tags.specs.Groups.{kind_of}
use Rattle.tx_tags.proofs.sections.kind_among.Given as goal

abbrev pub invariant-loop-rest : goal.invariant-loop-rest
invariant-loop-rest l = kind_of l.name l.rest ≡ kind_of l.name l.sections

abbrev pub decreases-loop-rest : goal.decreases-loop-rest
decreases-loop-rest l = length l.rest
