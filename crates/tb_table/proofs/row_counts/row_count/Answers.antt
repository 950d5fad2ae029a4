use Rattle.std.proofs.Common.{◌∙◌}
use Rattle.std.proofs.lemmas.Result.{IfOk-weaker}
use Rattle.tb_table.proofs.CountSteps.{rows_counted}
use Rattle.tb_table.proofs.row_counts.row_count.Goals as goal

pub returns : goal.returns
returns g c = λ m holds only. IfOk-weaker c.entry_count.result _ _ (λ n is. is ∙ rows_counted c.args.table.now m only) (c.entry_count.ensures m holds)
