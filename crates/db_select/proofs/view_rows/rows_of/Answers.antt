use Rattle.std.proofs.Common.{sym, ap, ◌∙◌}
use Rattle.std.proofs.lemmas.Result.{IfOk-weaker}
use Rattle.db_select.specs.declared.views.View.{View}
use Rattle.db_select.specs.ViewRows.{rows_at}
use Rattle.db_select.proofs.view_rows.rows_of.Goals as goal

pub returns-in-Waiting-clause-rows : goal.returns-in-Waiting-clause-rows
returns-in-Waiting-clause-rows g c = λ m k holds stands.
    IfOk-weaker c.waiting_rows.result _ _ (λ rows is. is ∙ sym (ap (λ (view : View). rows_at view m.indexes c.args.index.now) c.in-Waiting.is)) (c.waiting_rows.ensures.rows m k holds stands)

pub returns-in-Errors-clause-rows : goal.returns-in-Errors-clause-rows
returns-in-Errors-clause-rows g c = λ m k holds stands.
    IfOk-weaker c.faulty_rows.result _ _ (λ rows is. is ∙ sym (ap (λ (view : View). rows_at view m.indexes c.args.index.now) c.in-Errors.is)) (c.faulty_rows.ensures.rows m k holds stands)
