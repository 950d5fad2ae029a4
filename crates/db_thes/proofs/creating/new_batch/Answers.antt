use Rattle.db_thes.proofs.Plans.{shaped_alone}
use Rattle.db_thes.proofs.creating.new_batch.Goals as goal

pub returns-clause-shaped : goal.returns-clause-shaped
returns-clause-shaped c = shaped_alone _ _ _ c.new-batch.ensures c.in_ok-create.ensures.ok c.in_ok-create.ensures.shaped
