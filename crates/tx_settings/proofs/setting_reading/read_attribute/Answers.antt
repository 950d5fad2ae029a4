use Rattle.std.proofs.Common.{sym, ◌∙◌}
use Rattle.tx_settings.proofs.SettingSteps.{attribute_stands, no_attribute}
use Rattle.tx_settings.proofs.setting_reading.read_attribute.Goals as goal

pub returns-in_err-attribute : goal.returns-in_err-attribute
returns-in_err-attribute c = rw c.from_residual-in_err-attribute.ensures (no_attribute c.args.bytes.now c.args.at c.in_ok-name.name.now c.in_ok-name.next c.in_ok-name.ensures.some c.in_ok-name.ensures.within (sym c.attribute_of.ensures ∙ c.in_err-attribute.was))

pub returns : goal.returns
returns c = attribute_stands c.args.bytes.now c.args.at c.in_ok-name.name.now c.in_ok-name.next c.in_ok-attribute.attribute c.in_ok-name.ensures.some c.in_ok-name.ensures.within (sym c.attribute_of.ensures ∙ c.in_ok-attribute.was)
