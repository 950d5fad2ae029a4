use Rattle.std.proofs.lemmas.Result.{IfOk-weaker}
use Rattle.tx_prefs.proofs.copying.settings_meant.Goals as goal

pub returns-in-Some-clause-settings : goal.returns-in-Some-clause-settings
returns-in-Some-clause-settings g c = λ m told. IfOk-weaker c.lexer_settings.result _ _ (λ x is ps holds. rw c.in-Some.is (is ps holds)) (c.lexer_settings.ensures.settings m told)
