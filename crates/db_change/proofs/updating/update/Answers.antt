use Rattle.std.proofs.Common.{ℕ, List, sym, subst, ◌∙◌}
use Rattle.std.proofs.lemmas.Result.{err_from_is_err_and}
use Rattle.db_state.specs.Plans.{IsPlanOf}
use Rattle.db_state.specs.laws.Serving.{serves_failed, serves_short, serves_then, serves_counted, plan_then}
use Rattle.db_change.specs.Updating.{rows_updated, update as update_effect}
use Rattle.db_change.proofs.updating.update.Goals as goal

pub returns-in_err-plan : goal.returns-in_err-plan
returns-in_err-plan g c = serves_failed _ _ _ _ _ _ c.in_err-plan.ensures.reads (err_from_is_err_and _ c.from_residual.ensures.1)

pub returns-in_err-line : goal.returns-in_err-line
returns-in_err-line g c = serves_short _ _ _ _ _ c.in_ok-plan.ensures.reads (err_from_is_err_and _ c.from_residual-in_err-line.ensures.1)

pub returns : goal.returns
returns g c =
    let rows = c.in_ok-plan.rows in
    let line = c.deref.ensures.value ∙ c.in_ok-line.ensures in
    let made = subst (λ (l : List ℕ). IsPlanOf (λ m. update_effect m c.args.table.now c.args.assigns.now c.args.conds.now) l (g.K.Keeper.view c.args.keeper.now) c.in_ok-plan.plan) (sym line) c.in_ok-plan.ensures.plan in
    serves_then _ _ _ _ _ _ c.in_ok-plan.ensures.reads
    (serves_counted _ rows_updated rows c.deref.result.now _ _ c.carry_out.result line (c.carry_out.ensures.done _ (plan_then _ _ _ _ _ c.in_ok-plan.ensures.reads made)))
