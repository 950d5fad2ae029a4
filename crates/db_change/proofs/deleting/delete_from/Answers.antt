use Rattle.std.proofs.Common.{◌≡◌, ℕ, List, sym, subst, ◌∙◌}
use Rattle.std.proofs.lemmas.Result.{err_from_is_err_and}
use Rattle.ct_keep.specs.laws.Composing.{reads_hold}
use Rattle.db_state.specs.Plans.{IsPlanOf}
use Rattle.db_state.specs.laws.Serving.{serves_err, serves_short, serves_then, serves_counted, plan_then}
use Rattle.db_change.specs.Deleting.{delete_from, rows_deleted}
use Rattle.db_change.proofs.deleting.delete_from.Goals as goal

pub returns-in_err-line-in-Ok-clause-done : goal.returns-in_err-line-in-Ok-clause-done
returns-in_err-line-in-Ok-clause-done g c = serves_short _ _ _ _ _ c.in-Ok.ensures.reads (err_from_is_err_and _ c.from_residual.ensures.1)

pub returns-in_ok-line-in-Ok-clause-done : goal.returns-in_ok-line-in-Ok-clause-done
returns-in_ok-line-in-Ok-clause-done g c =
    let rows = c.in-Ok.rows in
    let is : c.deref.result.now ≡ rows_deleted rows = c.deref.ensures.value ∙ c.in_ok-line-in-Ok.ensures in
    let plan = subst (λ (line : List ℕ). IsPlanOf (λ m. delete_from m c.args.table.now c.args.conds.now) line (g.K.Keeper.view c.args.keeper.now) c.in-Ok.plan) (sym is) c.in-Ok.ensures.plan in
    serves_then _ _ _ _ _ _ c.in-Ok.ensures.reads (serves_counted _ rows_deleted rows c.deref.result.now _ _ c.carry_out.result is (c.carry_out.ensures.done _ (plan_then _ _ _ _ _ c.in-Ok.ensures.reads plan)))

pub returns-in-Err-clause-done : goal.returns-in-Err-clause-done
returns-in-Err-clause-done g c = serves_err _ _ _ _ _ c.in-Err.ensures.reads

pub returns-in_ok-line-in-Ok-clause-never_full : goal.returns-in_ok-line-in-Ok-clause-never_full
returns-in_ok-line-in-Ok-clause-never_full g c = λ m holds. c.carry_out.ensures.light m (reads_hold _ _ m c.in-Ok.ensures.reads holds) (c.in-Ok.ensures.light m holds)
