use Rattle.std.proofs.Common.{ap, ◌∙◌}
use Rattle.ct_keep.specs.laws.Composing.{reads_hold}
use Rattle.q_reduce.specs.Results.{named_pairs}
use Rattle.db_state.specs.laws.Contexts.{holds_rule_index}
use Rattle.db_index.specs.Syncing.{synced_kind}
use Rattle.db_index.proofs.PlanShapes.{of_rules}
use Rattle.db_index.proofs.SyncSteps.{rules_of, sync_makes_rules}
use Rattle.db_index.proofs.syncing.synced.Goals as goal

pub returns-then-not-rules-clause-changes : goal.returns-then-not-rules-clause-changes
returns-then-not-rules-clause-changes g c = λ m k x holds stands there of. c.synced_context.ensures.changes m k x holds stands there (of ∙ ap synced_kind c.if-not-rules.true)

pub returns-clause-changes : goal.returns-clause-changes
returns-clause-changes g c = λ m k x holds stands there of.
    let y = rules_of m c.args.index.now x there (of ∙ ap synced_kind c.if-not-rules.false) in
    sync_makes_rules c.args.index.now m k x y.0 y.1 (named_pairs c.deref.result.now) (ap named_pairs c.deref.ensures.value ∙ c.in_ok-thesauri.ensures.thesauri m k holds stands) c.new-batch.result c.sync.new.batch c.new-batch.ensures
    (c.in_ok-sync.ensures.changes k m.tables y.0 (reads_hold _ _ k c.in_ok-thesauri.ensures.reads holds) (holds_rule_index k m stands c.args.index.now y.0 y.2))

pub returns-clause-entries : goal.returns-clause-entries
returns-clause-entries g c = of_rules c.new-batch.result c.sync.new.batch c.new-batch.ensures c.in_ok-sync.ensures.shaped
