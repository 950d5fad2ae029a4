use Rattle.ct_keep.specs.laws.Composing.{reads_hold}
use Rattle.ct_entry.specs.laws.Removals.{removes_then}
use Rattle.db_state.specs.laws.Removing.{removals_light, removals_taken}
use Rattle.db_change.proofs.DropSteps.{drops_table}
use Rattle.db_change.proofs.dropping.dropped.Goals as goal

pub returns-clause-changes : goal.returns-clause-changes
returns-clause-changes g c = λ m k holds stands.
    let second = reads_hold _ _ k c.in_ok-remove.ensures.reads holds in
    let third = reads_hold _ _ k c.in_ok-indexes.ensures.reads second in
    drops_table k m c.args.table.now c.deref.result.now c.in_ok-indexes.indexes.items _ _ _ stands c.deref.ensures.value (c.in_ok-indexes.ensures.value k second) c.new-batch.ensures (c.in_ok-remove.ensures.ok k holds) (c.in_ok-remove_indexes.ensures.changes k third)

pub returns-clause-light : goal.returns-clause-light
returns-clause-light g c = removals_light _ _ c.new-batch.ensures (removes_then _ _ _ c.in_ok-remove.ensures.shaped c.in_ok-remove_indexes.ensures.removes)

pub returns-clause-entries : goal.returns-clause-entries
returns-clause-entries g c = removals_taken _ _ c.new-batch.ensures (removes_then _ _ _ c.in_ok-remove.ensures.shaped c.in_ok-remove_indexes.ensures.removes)
