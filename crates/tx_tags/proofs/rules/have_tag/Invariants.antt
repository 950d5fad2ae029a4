use Rattle.std.proofs.Common.{◌≡◌, length}
use Rattle.tx_tags.specs.Groups.{is_among, tag_names}
use Rattle.tx_tags.proofs.rules.have_tag.Given as goal

abbrev pub invariant-loop-rest : goal.invariant-loop-rest
invariant-loop-rest l = is_among l.tag (tag_names l.rest) ≡ is_among l.tag (tag_names l.sections)

abbrev pub decreases-loop-rest : goal.decreases-loop-rest
decreases-loop-rest l = length l.rest
