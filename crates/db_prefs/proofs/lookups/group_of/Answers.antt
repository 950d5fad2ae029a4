use Rattle.std.proofs.lemmas.Result.{IfOk-weaker}
use Rattle.db_state.specs.laws.Holding.{holds_preferences}
use Rattle.db_prefs.proofs.lookups.group_of.Goals as goal

pub returns-in-Some-clause-group : goal.returns-in-Some-clause-group
returns-in-Some-clause-group g c = λ m k holds stands. IfOk-weaker c.section_group.result _ _ (λ x is. rw c.in-Some.is (is m.preferences (holds_preferences k m stands))) (c.section_group.ensures.group k holds)
