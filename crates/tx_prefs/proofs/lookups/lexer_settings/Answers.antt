use Rattle.std.proofs.Common.{Some, ap, ◌∙◌}
use Rattle.std.specs.FinMap.{get}
use Rattle.std.proofs.lemmas.Bool.{and_parts}
use Rattle.tx_settings.specs.PrefsBytes.{are_settings, settings_bytes}
use Rattle.tx_settings.specs.laws.Apart.{settings_apart}
use Rattle.tx_prefs.proofs.ReadSteps.{read_is}
use Rattle.tx_prefs.proofs.lookups.lexer_settings.Goals as goal

pub returns-clause-settings : goal.returns-clause-settings
returns-clause-settings g c = λ m told ps holds.
    read_is are_settings settings_bytes settings_apart _ _ (get ps.lexers c.args.name.now) c.in_ok-settings.ensures
    (ap Some c.deref.ensures.value ∙ (rw c.in-Some.is at (c.in_ok-value.ensures.value m told)) ∙ holds.stand.lexers c.args.name.now)
    (λ x is. (and_parts (are_settings x) _ (holds.rules.lexers.each c.args.name.now x is)).0)
