use Rattle.std.proofs.lemmas.Result.{IfOk-weaker}
use Rattle.db_state.specs.laws.Holding.{holds_preferences}
use Rattle.db_prefs.proofs.lookups.is_there.Goals as goal

pub returns-in-Some-clause-there : goal.returns-in-Some-clause-there
returns-in-Some-clause-there g c = λ m k holds stands. IfOk-weaker c.has_named.result _ _ (λ x is. rw c.in-Some.is (is m.preferences (holds_preferences k m stands))) (c.has_named.ensures.there k holds)
