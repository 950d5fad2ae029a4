use Rattle.std.proofs.Common.{◌≡◌, length}
use Rattle.tx_settings.specs.Attributes.{are_taken}
use Rattle.tx_settings.proofs.settings.are_taken.Given as goal

abbrev pub invariant-loop-rest : goal.invariant-loop-rest
invariant-loop-rest l = are_taken l.rest ≡ are_taken l.settings

abbrev pub decreases-loop-rest : goal.decreases-loop-rest
decreases-loop-rest l = length l.rest
