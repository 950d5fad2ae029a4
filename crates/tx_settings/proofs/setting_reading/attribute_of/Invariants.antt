use Rattle.std.proofs.Common.{◌≡◌, length}
use Rattle.tx_settings.specs.Attributes.{all_attributes, named_among}
use Rattle.tx_settings.proofs.setting_reading.attribute_of.Given as goal

abbrev pub invariant-loop-rest : goal.invariant-loop-rest
invariant-loop-rest l = named_among l.name l.rest ≡ named_among l.name all_attributes

abbrev pub decreases-loop-rest : goal.decreases-loop-rest
decreases-loop-rest l = length l.rest
