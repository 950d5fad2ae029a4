use Rattle.std.proofs.Common.{Some, ap, ◌∙◌}
use Rattle.std.specs.FinMap.{get}
use Rattle.tx_settings.specs.PrefsBytes.{group_bytes, is_named_group}
use Rattle.tx_settings.specs.laws.Apart.{group_apart}
use Rattle.tx_prefs.proofs.ReadSteps.{read_is}
use Rattle.tx_prefs.proofs.lookups.section_group.Goals as goal

pub returns-clause-group : goal.returns-clause-group
returns-clause-group g c = λ m told ps holds.
    read_is is_named_group group_bytes group_apart _ _ (get ps.groups c.args.name.now) c.in_ok-group.ensures
    (ap Some c.deref.ensures.value ∙ (rw c.in-Some.is at (c.in_ok-value.ensures.value m told)) ∙ holds.stand.groups c.args.name.now)
    (λ x is. holds.rules.groups.each c.args.name.now x is)
