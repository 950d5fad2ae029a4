use Rattle.tx_sets.specs.Sets.{are_lists, set_bytes}
use Rattle.tx_sets.specs.laws.Sets.{set_apart}
use Rattle.tx_prefs.proofs.ReadSteps.{spells_none, spells_less}
use Rattle.tx_prefs.proofs.reading.set_in.Goals as goal

pub returns-in_default : goal.returns-in_default
returns-in_default c = spells_none are_lists set_bytes c.args.bytes.now (rw c.in_default.is at c.in_ok-set.ensures)

pub returns-else-end-bytes : goal.returns-else-end-bytes
returns-else-end-bytes c = spells_less are_lists set_bytes set_apart c.args.bytes.now c.in-Some.set.items c.in-Some.end (rw c.in-Some.is at c.in_ok-set.ensures) c.if-end-bytes.false
