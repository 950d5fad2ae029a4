use Rattle.ct_keep.specs.laws.Composing.{reads_on, reads_hold}
use Rattle.ct_entry.specs.declared.kinds.Kind.{Kind}
use Rattle.ct_entry.specs.declared.kinds.Kind.TheVariants.{Tables}
use Rattle.ct_entry.specs.Removals.{owned_removals}
use Rattle.ct_entry.specs.laws.Removals.{removes_then}
use Rattle.ix_indexes.specs.laws.EachAdded.{each_added, first_left}
use Rattle.ix_indexes.proofs.removing.remove_kinds.Goals as goal

pub loop-kind-preserved : goal.loop-kind-preserved
loop-kind-preserved g c = record {
  reads = reads_on _ _ _ _ c.loop-kind.invariant.reads c.in_ok-remove_entries.ensures.reads;
  removes = removes_then _ _ _ c.loop-kind.invariant.removes c.in_ok-remove_entries.ensures.removes;
  changes = λ m holds.
      each_added (λ (kind : Kind). owned_removals kind c.args.index.now m) _ c.loop-kind.changes c.remove_entries.new.batch _ _ _ (c.loop-kind.invariant.changes m holds)
      (first_left c.args.kinds.now c.loop-kind.kind-index Tables c.loop-kind-test.true)
      (c.in_ok-remove_entries.ensures.ok m (reads_hold _ _ m c.loop-kind.invariant.reads holds));
}
