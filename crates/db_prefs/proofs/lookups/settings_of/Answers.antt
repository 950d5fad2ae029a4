use Rattle.std.proofs.lemmas.Result.{IfOk-weaker}
use Rattle.db_state.specs.laws.Holding.{holds_preferences}
use Rattle.db_prefs.proofs.lookups.settings_of.Goals as goal

pub returns-in-Some-clause-settings : goal.returns-in-Some-clause-settings
returns-in-Some-clause-settings g c = λ m k holds stands. IfOk-weaker c.lexer_settings.result _ _ (λ x is. rw c.in-Some.is (is m.preferences (holds_preferences k m stands))) (c.lexer_settings.ensures.settings k holds)
