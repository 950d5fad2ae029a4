use Rattle.ct_keep.specs.laws.Composing.{reads_on, reads_hold}
use Rattle.ct_entry.specs.laws.Removals.{removes_then}
use Rattle.db_change.proofs.DropSteps.{indexes_left}
use Rattle.db_change.proofs.dropping.remove_indexes.Goals as goal
use Rattle.ix_indexes.specs.Removing.{index_removals}
use Rattle.ix_indexes.specs.laws.EachAdded.{each_added}

pub loop-index-preserved : goal.loop-index-preserved
loop-index-preserved g c = record {
  reads = reads_on _ _ _ _ c.loop-index.invariant.reads c.in_ok-remove.ensures.reads;
  removes = removes_then _ _ _ c.loop-index.invariant.removes c.in_ok-remove.ensures.removes;
  changes = λ m holds.
      each_added (λ i. index_removals i m) _ c.loop-index.batch c.remove.new.batch _ _ _ (c.loop-index.invariant.changes m holds)
      (indexes_left c.args.indexes.now c.loop-index.index-index c.loop-index-item.result c.loop-index-test.true c.loop-index-item.is)
      (c.in_ok-remove.ensures.changes m (reads_hold _ _ m c.loop-index.invariant.reads holds));
}
