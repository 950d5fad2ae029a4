use Rattle.std.proofs.Common.{sym, ◌∙◌}
use Rattle.th_store.specs.laws.Rules.{term_is}
use Rattle.th_store.specs.Sees.{is_at_pair_limit}
use Rattle.db_cond.specs.Faults.{LimitReached}
use Rattle.db_state.specs.laws.Chains.{fails}
use Rattle.db_thes.proofs.Plans.{of_thesauri, pair_planned}
use Rattle.db_thes.proofs.relating.added_plan.Goals as goal

pub returns-then-full-clause-plan : goal.returns-then-full-clause-plan
returns-then-full-clause-plan c = λ ps m k stands told. fails (is_at_pair_limit ps) LimitReached _ (sym told.1 ∙ c.if-full.true)

pub returns-clause-plan : goal.returns-clause-plan
returns-clause-plan c = λ ps m k stands told.
    let s = c.args.stated.now in
    pair_planned k m c.args.name.now c.in_ok-batch.batch stands ps s told.0
    (term_is s.first c.as_str-first.result.now c.as_str-first.ensures.text c.as_str-first.ensures.term c.as_str-first.utf8)
    (term_is s.second c.as_str-second.result.now c.as_str-second.ensures.text c.as_str-second.ensures.term c.as_str-second.utf8)
    told.2 (sym told.1 ∙ c.if-full.false) c.in_ok-batch.ensures.changes

pub returns-clause-entries : goal.returns-clause-entries
returns-clause-entries c = of_thesauri c.in_ok-batch.batch c.in_ok-batch.ensures.shaped
