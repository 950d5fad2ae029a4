use Rattle.std.proofs.Common.{◌≡◌, length}
use Rattle.std.specs.List.{list_all}
use Rattle.tx_tags.specs.Groups.{is_tag, tag_names}
use Rattle.tx_tags.proofs.rules.have_spelt_tags.Given as goal

abbrev pub invariant-loop-rest : goal.invariant-loop-rest
invariant-loop-rest l = list_all is_tag (tag_names l.rest) ≡ list_all is_tag (tag_names l.sections)

abbrev pub decreases-loop-rest : goal.decreases-loop-rest
decreases-loop-rest l = length l.rest
