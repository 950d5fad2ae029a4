use Rattle.std.proofs.Common.{◌≡◌, length}
use Rattle.tx_settings.specs.Attributes.{options_of, options_with}
use Rattle.tx_settings.proofs.settings.options_of.Given as goal

abbrev pub invariant-loop-rest : goal.invariant-loop-rest
invariant-loop-rest l = options_with l.options l.rest ≡ options_of l.settings

abbrev pub decreases-loop-rest : goal.decreases-loop-rest
decreases-loop-rest l = length l.rest
