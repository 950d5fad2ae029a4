use Rattle.tb_table.specs.Shapes.{HasTableValue}
use Rattle.db_change.proofs.ShapeSteps.{shaped_alone}
use Rattle.db_change.proofs.creating.table_batch.Goals as goal

pub returns-clause-shaped : goal.returns-clause-shaped
returns-clause-shaped c = shaped_alone HasTableValue _ _ _ c.new-batch.ensures c.in_ok-create.ensures.ok c.in_ok-create.ensures.shaped
