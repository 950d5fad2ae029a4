use Rattle.std.proofs.Common.{◌∙◌}
use Rattle.tx_settings.proofs.PrefsSteps.{compared}
use Rattle.tx_settings.proofs.preferences.Prefs.is_spelt.Goals as goal

pub returns : goal.returns
returns c =
    compared c.eq.result c.args.bytes.now c.args.at c.args.next c.args.self.now c.as_slice.result.now c.keep_rules.ensures c.requires.from c.requires.within (c.as_slice.ensures.value ∙ c.in_ok-spelling.ensures) c.eq.ensures
