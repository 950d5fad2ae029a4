use Rattle.std.proofs.Common.{◌∙◌}
use Rattle.ct_base.specs.declared.numbers.RowKey.{RowKey}
use Rattle.db_select.proofs.ViewSteps.{waiting_shown}
use Rattle.db_select.proofs.view_rows.waiting_rows.Goals as goal

pub returns-clause-rows : goal.returns-clause-rows
returns-clause-rows g c = λ m k holds stands.
    c.in_ok-rows.ensures ∙ waiting_shown m k stands c.args.index.now (λ (row : RowKey). row.0) c.in_ok-keys.keys.items (c.in_ok-keys.ensures.rows k holds)
