use Rattle.std.proofs.Common.{◌∙◌}
use Rattle.ct_keep.specs.laws.Composing.{reads_hold}
use Rattle.db_state.specs.laws.Chains.{checked, refused}
use Rattle.db_change.proofs.ShapeSteps.{of_tables}
use Rattle.db_change.proofs.TableSteps.{table_read, table_made}
use Rattle.db_change.proofs.creating.table_plan.Goals as goal

pub returns-in-Some-clause-plan : goal.returns-in-Some-clause-plan
returns-in-Some-clause-plan g c = record {
  made = λ m k holds stands.
      table_read m c.args.table.now c.args.columns.now _ _ (c.in_ok-there.ensures.there m k holds stands) (c.in_ok-many.ensures.many m k (reads_hold _ _ k c.in_ok-there.ensures.reads holds) stands)
      ∙ refused c.table_fault.result c.in-Some.fault _ _ c.in-Some.is (c.table_fault.ensures.checks _);
}

pub returns-clause-plan : goal.returns-clause-plan
returns-clause-plan g c = record {
  made = λ m k holds stands.
      table_made m k c.args.table.now c.args.columns.now _ stands c.as_str-named.ensures.name c.in_ok-batch.ensures.changes c.in_ok-batch.ensures.named
      (table_read m c.args.table.now c.args.columns.now _ _ (c.in_ok-there.ensures.there m k holds stands) (c.in_ok-many.ensures.many m k (reads_hold _ _ k c.in_ok-there.ensures.reads holds) stands)
      ∙ checked c.table_fault.result _ _ c.in_default.is (c.table_fault.ensures.checks _));
}

pub returns-clause-entries : goal.returns-clause-entries
returns-clause-entries g c = of_tables c.in_ok-batch.batch c.in_ok-batch.ensures.shaped
