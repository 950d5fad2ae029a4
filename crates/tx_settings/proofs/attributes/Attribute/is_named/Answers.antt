use Rattle.tx_settings.proofs.AttributeSteps.{is_named}
use Rattle.tx_settings.proofs.attributes.Attribute.is_named.Goals as goal

pub returns : goal.returns
returns c = is_named c.eq_ignore_ascii_case.result c.args.self c.name.result.now c.args.text.now c.name.ensures c.eq_ignore_ascii_case.ensures.test
