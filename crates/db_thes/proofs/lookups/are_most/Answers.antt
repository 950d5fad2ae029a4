use Rattle.std.proofs.lemmas.Result.{IfOk-weaker}
use Rattle.db_state.specs.laws.Holding.{holds_thesauri}
use Rattle.db_thes.proofs.lookups.are_most.Goals as goal

pub returns-clause-most : goal.returns-clause-most
returns-clause-most g c = λ m k holds stands. IfOk-weaker c.is_at_thesaurus_limit.result _ _ (λ x is. is m.thesauri (holds_thesauri k m stands)) (c.is_at_thesaurus_limit.ensures.full k holds)
