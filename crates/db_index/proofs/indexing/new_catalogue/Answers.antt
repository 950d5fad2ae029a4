use Rattle.cat_index.specs.Sees.{created_changes}
use Rattle.db_index.proofs.CreateSteps.{from_empty}
use Rattle.db_index.proofs.PlanShapes.{of_catalogues}
use Rattle.db_index.proofs.indexing.new_catalogue.Goals as goal

pub returns-clause-changes : goal.returns-clause-changes
returns-clause-changes g c = λ m k holds stands.
    from_empty c.new-batch.result c.create.new.batch (created_changes m.tables c.args.index.now (record { target = c.args.target; prefs = c.args.wanted.prefs; subs = c.args.wanted.subs })) c.new-batch.ensures
    (c.in_ok-create.ensures.changes k m.tables holds stands.only stands.tables stands.state.tables)

pub returns-clause-entries : goal.returns-clause-entries
returns-clause-entries g c = of_catalogues c.new-batch.result c.create.new.batch c.new-batch.ensures c.in_ok-create.ensures.shaped
