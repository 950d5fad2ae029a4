use Rattle.ct_entry.specs.laws.Well.{well_next}
use Rattle.test_keepers.proofs.batches.are_entries.Goals as goal

pub loop-change-preserved : goal.loop-change-preserved
loop-change-preserved c =
    well_next _ c.changes-change-items.result.now c.loop-change.change-index c.change-item.result c.loop-change-test.true c.change-item.is c.loop-change.invariant (c.is_entry.ensures c.if-not-is_entry.false)
