use Rattle.std.proofs.Common.{◌≡◌, length}
use Rattle.tx_tags.specs.Groups.{is_among}
use Rattle.tx_tags.proofs.rules.has_text.Given as goal

abbrev pub invariant-loop-rest : goal.invariant-loop-rest
invariant-loop-rest l = is_among l.text l.rest ≡ is_among l.text l.texts

abbrev pub decreases-loop-rest : goal.decreases-loop-rest
decreases-loop-rest l = length l.rest
