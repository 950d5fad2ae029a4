use Rattle.std.proofs.lemmas.Result.{IfOk-weaker}
use Rattle.db_state.specs.laws.Holding.{holds_thesauri}
use Rattle.db_thes.proofs.lookups.is_there.Goals as goal

pub returns-in-Some-clause-there : goal.returns-in-Some-clause-there
returns-in-Some-clause-there g c = λ m k holds stands. IfOk-weaker c.has_thesaurus.result _ _ (λ x is. rw c.in-Some.is (is m.thesauri (holds_thesauri k m stands))) (c.has_thesaurus.ensures.there k holds)
