use Rattle.std.proofs.Common.{sym, ◌∙◌}
use Rattle.th_store.specs.Sees.{is_at_thesaurus_limit}
use Rattle.db_cond.specs.Faults.{LimitReached}
use Rattle.db_state.specs.laws.Chains.{fails}
use Rattle.db_thes.proofs.Plans.{of_thesauri, thesaurus_planned}
use Rattle.db_thes.proofs.creating.new_plan.Goals as goal

pub returns-then-most-clause-plan : goal.returns-then-most-clause-plan
returns-then-most-clause-plan c = λ m k stands told. fails (is_at_thesaurus_limit m.thesauri) LimitReached _ (sym told.0 ∙ c.if-most.true)

pub returns-clause-plan : goal.returns-clause-plan
returns-clause-plan c = λ m k stands told. thesaurus_planned k m c.args.name.now c.in_ok-batch.batch stands c.as_str-named.ensures.name told.1 (sym told.0 ∙ c.if-most.false) c.in_ok-batch.ensures.changes

pub returns-clause-entries : goal.returns-clause-entries
returns-clause-entries c = of_thesauri c.in_ok-batch.batch c.in_ok-batch.ensures.shaped
