use Rattle.std.proofs.Common.{Err, ap}
use Rattle.db_state.specs.laws.Contexts.{holds_index}
use Rattle.db_index.proofs.PlanShapes.{of_contexts}
use Rattle.db_index.proofs.SyncSteps.{context_of, sync_makes, sync_makes_none}
use Rattle.db_index.proofs.syncing.synced_context.Goals as goal

pub returns-in-Ok-clause-changes : goal.returns-in-Ok-clause-changes
returns-in-Ok-clause-changes g c = λ m k x holds stands there of.
    let y = context_of m c.args.index.now x there of in
    let told = holds_index k m stands c.args.index.now y.0 y.2 in
    sync_makes c.args.index.now m k x y.0 y.1 told c.new-batch.result c.sync.new.batch c.new-batch.ensures (c.in-Ok.ensures.room k m.tables y.0 holds told) (c.in-Ok.ensures.changes k m.tables y.0 holds told)

pub returns-in-Err-TooMany-clause-changes : goal.returns-in-Err-TooMany-clause-changes
returns-in-Err-TooMany-clause-changes g c = λ m k x holds stands there of.
    let y = context_of m c.args.index.now x there of in
    sync_makes_none x y.0 y.1 (c.in-Err-TooMany.ensures.many k m.tables y.0 holds (holds_index k m stands c.args.index.now y.0 y.2) (ap Err c.in-Err-TooMany.field-0-is))

pub returns-in-Ok-clause-entries : goal.returns-in-Ok-clause-entries
returns-in-Ok-clause-entries g c = of_contexts c.new-batch.result c.sync.new.batch c.new-batch.ensures c.in-Ok.ensures.shaped
