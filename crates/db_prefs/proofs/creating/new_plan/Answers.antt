use Rattle.std.proofs.Common.{sym, ◌∙◌}
use Rattle.ct_base.specs.laws.Options.{none_or_some}
use Rattle.tx_prefs.specs.Sees.{is_kind_full}
use Rattle.db_cond.specs.Faults.{LimitReached}
use Rattle.db_state.specs.laws.Chains.{fails}
use Rattle.db_prefs.proofs.Plans.{found_some, new_planned, of_preferences, same_batch}
use Rattle.db_prefs.proofs.creating.new_plan.Goals as goal

pub returns-then-full-clause-plan : goal.returns-then-full-clause-plan
returns-then-full-clause-plan c = λ m k stands full. fails (is_kind_full c.args.kind m.preferences) LimitReached _ (sym full ∙ c.if-full.true)

pub returns-in_default-clause-plan : goal.returns-in_default-clause-plan
returns-in_default-clause-plan c = λ m k stands full. absurd (none_or_some _ _ c.in_default.is c.in_ok-batch.ensures.changes)

pub returns-clause-plan : goal.returns-clause-plan
returns-clause-plan c = λ m k stands full.
    new_planned k m c.args.name.now c.in-Some.batch stands c.args.kind c.args.is_null c.as_str-named.ensures.name (sym full ∙ c.if-full.false) (same_batch _ c.in-Some.batch _ c.in-Some.is c.in_ok-batch.ensures.changes)

pub returns-clause-entries : goal.returns-clause-entries
returns-clause-entries c = of_preferences c.in-Some.batch (found_some _ c.in-Some.batch _ c.in-Some.is c.in_ok-batch.ensures.shaped)
