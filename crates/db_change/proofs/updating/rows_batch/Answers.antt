use Rattle.std.proofs.Common.{None, List, ℕ, Option, ◌++◌, ap, sym, subst, ◌∙◌}
use Rattle.ct_base.specs.declared.numbers.RowKey.{RowKey}
use Rattle.ct_keep.specs.laws.Composing.{reads_on, reads_hold}
use Rattle.ct_entry.specs.laws.Shapes.{are_shaped-append}
use Rattle.tb_table.specs.Rules.{others}
use Rattle.ix_indexes.specs.Noting.{noted_indexes}
use Rattle.db_state.specs.Shapes.{HasStoreValue, AreStoreChanges}
use Rattle.db_change.specs.Updating.{row_update_changes}
use Rattle.db_change.proofs.GoneSteps.{each_whole, there_at}
use Rattle.db_change.proofs.UpdateSteps.{rows_more}
use Rattle.db_change.proofs.updating.rows_batch.Goals as goal

pub loop-row-preserved : goal.loop-row-preserved
loop-row-preserved g c = record {
  reads = reads_on (g.K.Keeper.view c.args.keeper.now) (g.K.Keeper.view c.loop-row.keeper) (g.K.Keeper.view c.row_batch.new.keeper) None c.loop-row.invariant.reads c.in_ok-changes.ensures.reads;
  batch = λ m k x holds stands here columns there held.
      rows_more (row_update_changes k m c.args.table.now (others c.args.columns.now) c.args.assigns.now (noted_indexes c.args.indexes.now)) c.args.rows.now c.loop-row.row-index _ c.loop-row.batch c.append.new.self
      c.loop-row-test.true (c.loop-row.invariant.batch m k x holds stands here columns there held)
      (c.in_ok-append.ensures.ok ∙ ap (λ (b : List (List ℕ × Option (List ℕ))). c.loop-row.batch ++ b) (c.in_ok-changes.ensures.batch m k x (reads_hold _ _ k c.loop-row.invariant.reads holds) stands here columns (there_at x c.args.rows.now c.loop-row.row-index c.loop-row-test.true there) held));
  entries = subst AreStoreChanges (sym c.in_ok-append.ensures.ok) (are_shaped-append HasStoreValue c.loop-row.batch c.in_ok-changes.changes c.loop-row.invariant.entries c.in_ok-changes.ensures.entries);
}

pub returns-clause-batch : goal.returns-clause-batch
returns-clause-batch g c = λ m k x holds stands here columns there held.
    each_whole (row_update_changes k m c.args.table.now (others c.args.columns.now) c.args.assigns.now (noted_indexes c.args.indexes.now)) (λ (row : RowKey). row.0) c.args.rows.now c.loop-row.row-index c.loop-row.batch
    c.loop-row-test.false (c.loop-row.invariant.batch m k x holds stands here columns there held)
