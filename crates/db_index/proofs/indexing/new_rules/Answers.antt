use Rattle.std.proofs.Common.{◌≡◌, ◌++◌, subst, ap, ◌∙◌}
use Rattle.ct_entry.specs.Changes.{spell}
use Rattle.ct_keep.specs.laws.Composing.{reads_hold}
use Rattle.ix_kinds.specs.Rows.{table_at}
use Rattle.q_reduce.specs.Results.{named_pairs}
use Rattle.rule_index.specs.Outcomes.{NamedThesauri}
use Rattle.rule_index.specs.Kind.{create_changes}
use Rattle.db_state.specs.States.{named_thesauri}
use Rattle.db_state.specs.laws.Contexts.{holds_rule_tables}
use Rattle.db_index.proofs.CreateSteps.{from_empty}
use Rattle.db_index.proofs.PlanShapes.{of_rules}
use Rattle.db_index.proofs.indexing.new_rules.Goals as goal

pub returns-clause-changes : goal.returns-clause-changes
returns-clause-changes g c = λ m k holds stands.
    let on = c.args.target.now in
    let all = ap named_pairs c.deref.ensures.value ∙ c.in_ok-thesauri.ensures.thesauri m k holds stands in
    from_empty c.new-batch.result c.create.new.batch (create_changes (named_thesauri m) (table_at m.tables on.table) c.args.index.now on c.args.prefs.now) c.new-batch.ensures
    (subst (λ (ts : NamedThesauri). c.create.new.batch ≡ c.new-batch.result ++ spell (create_changes ts (table_at m.tables on.table) c.args.index.now on c.args.prefs.now)) all
    (c.in_ok-create.ensures.changes k m.tables (reads_hold _ _ k c.in_ok-thesauri.ensures.reads holds) (holds_rule_tables k m stands)))

pub returns-clause-entries : goal.returns-clause-entries
returns-clause-entries g c = of_rules c.new-batch.result c.create.new.batch c.new-batch.ensures c.in_ok-create.ensures.shaped
