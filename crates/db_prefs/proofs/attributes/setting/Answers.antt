use Rattle.std.proofs.Common.{◌^◌, length, ap, ◌∙◌, arith}
use Rattle.std.proofs.lemmas.Bool.{lt-ltb}
use Rattle.tx_settings.specs.PrefsBytes.{is_short}
use Rattle.tx_settings.specs.laws.Lengths.{values_are_short}
use Rattle.db_prefs.proofs.attributes.setting.Goals as goal

pub returns-clause-short : goal.returns-clause-short
returns-clause-short c =
    let value = c.args.value.now in
    let few = values_are_short c.args.attribute value c.utf8.value c.requires in
    ap is_short c.in_ok-value.ensures ∙ lt-ltb (length value) (2 ^ 32) (omega (arith, few))
