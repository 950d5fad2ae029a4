use Rattle.std.proofs.Common.{Err, ap}
use Rattle.ix_context.specs.Contexts.{context_create_changes}
use Rattle.ix_kinds.specs.Rows.{table_at}
use Rattle.db_index.specs.Indexing.{all_rows}
use Rattle.db_state.specs.laws.Contexts.{holds_tables}
use Rattle.db_index.proofs.CreateSteps.{from_empty, over_limit}
use Rattle.db_index.proofs.PlanShapes.{of_contexts}
use Rattle.db_index.proofs.indexing.new_context.Goals as goal

pub returns-in-Ok-clause-changes : goal.returns-in-Ok-clause-changes
returns-in-Ok-clause-changes g c = λ m k holds stands.
    let on = c.args.target.now in
    from_empty c.new-batch.result c.create.new.batch (context_create_changes (table_at m.tables on.table) c.args.index.now on c.args.prefs.now all_rows) c.new-batch.ensures (c.in-Ok.ensures.changes k m.tables holds (holds_tables k m stands))

pub returns-in-Err-TooMany-clause-changes : goal.returns-in-Err-TooMany-clause-changes
returns-in-Err-TooMany-clause-changes g c = λ m k holds stands.
    over_limit m c.args.target.now (c.in-Err-TooMany.ensures.many k m.tables holds (holds_tables k m stands) (ap Err c.in-Err-TooMany.field-0-is))

pub returns-in-Ok-clause-entries : goal.returns-in-Ok-clause-entries
returns-in-Ok-clause-entries g c = of_contexts c.new-batch.result c.create.new.batch c.new-batch.ensures c.in-Ok.ensures.shaped
