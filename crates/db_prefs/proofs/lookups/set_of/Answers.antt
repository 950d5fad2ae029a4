use Rattle.std.proofs.lemmas.Result.{IfOk-weaker}
use Rattle.db_state.specs.laws.Holding.{holds_preferences}
use Rattle.db_prefs.proofs.lookups.set_of.Goals as goal

pub returns-in-Some-clause-set : goal.returns-in-Some-clause-set
returns-in-Some-clause-set g c = λ m k holds stands. IfOk-weaker c.index_set.result _ _ (λ x is. rw c.in-Some.is (is m.preferences (holds_preferences k m stands))) (c.index_set.ensures.set k holds)
