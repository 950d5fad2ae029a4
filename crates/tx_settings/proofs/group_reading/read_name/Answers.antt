use Rattle.std.proofs.Common.{sym, ◌∙◌}
use Rattle.tx_settings.proofs.GroupSteps.{name_stands, not_kept}
use Rattle.tx_settings.proofs.group_reading.read_name.Goals as goal

pub returns-in_default-2 : goal.returns-in_default-2
returns-in_default-2 c = not_kept c.args.bytes.now c.args.at c.in-Some.text.now c.in-Some.next c.in-Some.ensures.some c.in-Some.ensures.within (sym c.in_ok-name.ensures ∙ c.in_default-2.is)

pub returns : goal.returns
returns c = name_stands c.args.bytes.now c.args.at c.in-Some.text.now c.in-Some-2.name c.in-Some.next c.in-Some.ensures.some c.in-Some.ensures.within (sym c.in_ok-name.ensures ∙ c.in-Some-2.is)
