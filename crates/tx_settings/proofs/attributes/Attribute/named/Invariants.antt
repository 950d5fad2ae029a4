use Rattle.std.proofs.Common.{◌≡◌, length, map}
use Rattle.std.specs.Char.{to_ascii_lowercase}
use Rattle.tx_settings.specs.Attributes.{attribute_named, named_among}
use Rattle.tx_settings.proofs.attributes.Attribute.named.Given as goal

abbrev pub invariant-loop-rest : goal.invariant-loop-rest
invariant-loop-rest l = named_among (map to_ascii_lowercase l.text) l.rest ≡ attribute_named l.text

abbrev pub decreases-loop-rest : goal.decreases-loop-rest
decreases-loop-rest l = length l.rest
