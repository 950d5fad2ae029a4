use Rattle.std.proofs.lemmas.Result.{on_ok_weaker}
use Rattle.tb_table.specs.laws.Removals.{delete_shaped}
use Rattle.tb_table.proofs.removals.delete.Goals as goal

pub returns-clause-shaped : goal.returns-clause-shaped
returns-clause-shaped c = on_ok_weaker c.append.result (λ _. delete_shaped c.args.table.now c.args.columns.now c.args.key.0) c.append.ensures.ok
