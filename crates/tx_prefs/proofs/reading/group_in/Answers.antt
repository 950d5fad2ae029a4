use Rattle.tx_settings.specs.PrefsBytes.{is_named_group, group_bytes}
use Rattle.tx_settings.specs.laws.Apart.{group_apart}
use Rattle.tx_prefs.proofs.ReadSteps.{spells_less}
use Rattle.tx_prefs.proofs.reading.group_in.Goals as goal

pub returns-else-end-bytes : goal.returns-else-end-bytes
returns-else-end-bytes c = spells_less is_named_group group_bytes group_apart c.args.bytes.now c.in-Some.group c.in-Some.end (rw c.in-Some.is at c.in_ok-group.ensures) c.if-end-bytes.false
