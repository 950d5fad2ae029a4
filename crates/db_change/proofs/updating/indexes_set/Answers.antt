use Rattle.std.proofs.Common.{ap, ◌∙◌}
use Rattle.db_change.specs.Noting.{noted_set}
use Rattle.db_change.specs.Updating.{places_set}
use Rattle.db_change.proofs.updating.indexes_set.Goals as goal

pub returns-clause-indexes : goal.returns-clause-indexes
returns-clause-indexes g c = λ m k x holds stands here columns.
    c.keep_set.ensures.kept ∙ ap (noted_set (places_set c.args.columns.now c.args.assigns.now)) (c.in_ok-indexes.ensures.indexes m k x holds stands here columns)
