use Rattle.tx_settings.specs.PrefsBytes.{are_settings, settings_bytes}
use Rattle.tx_settings.specs.laws.Apart.{settings_apart}
use Rattle.tx_prefs.proofs.ReadSteps.{spells_none, spells_less}
use Rattle.tx_prefs.proofs.reading.settings_in.Goals as goal

pub returns-in_default : goal.returns-in_default
returns-in_default c = spells_none are_settings settings_bytes c.args.bytes.now (rw c.in_default.is at c.in_ok-settings.ensures)

pub returns-else-end-bytes : goal.returns-else-end-bytes
returns-else-end-bytes c = spells_less are_settings settings_bytes settings_apart c.args.bytes.now c.in-Some.settings.items c.in-Some.end (rw c.in-Some.is at c.in_ok-settings.ensures) c.if-end-bytes.false
