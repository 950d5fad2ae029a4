use Rattle.std.proofs.lemmas.Result.{IfOk-weaker}
use Rattle.db_state.specs.laws.Holding.{holds_preferences}
use Rattle.db_prefs.proofs.lookups.is_full.Goals as goal

pub returns-clause-full : goal.returns-clause-full
returns-clause-full g c = λ m k holds stands. IfOk-weaker c.is_kind_full.result _ _ (λ x is. is m.preferences (holds_preferences k m stands)) (c.is_kind_full.ensures.full k holds)
