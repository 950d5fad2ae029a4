use Rattle.ct_keep.specs.laws.Composing.{reads_hold}
use Rattle.ct_entry.specs.laws.Removals.{removes_then, removes_appended}
use Rattle.tb_table.proofs.RemovalSteps.{three_added}
use Rattle.tb_table.proofs.removals.remove.Goals as goal

pub returns-clause-ok : goal.returns-clause-ok
returns-clause-ok g c m holds =
    let second = reads_hold _ _ m c.in_ok-remove_entries.ensures.reads holds in
    let third = reads_hold _ _ m c.in_ok-remove_entries-2.ensures.reads second in
    three_added _ _ _ _ _ _ _ _ _ c.new-changes.ensures (c.in_ok-remove_entries.ensures.ok m holds) (c.in_ok-remove_entries-2.ensures.ok m second) (c.in_ok-remove_entries-3.ensures.ok m third) c.in_ok-append.ensures.ok

pub returns-clause-shaped : goal.returns-clause-shaped
returns-clause-shaped g c =
    removes_appended _ _ _ _ c.new-changes.ensures
    (removes_then _ _ _ (removes_then _ _ _ c.in_ok-remove_entries.ensures.removes c.in_ok-remove_entries-2.ensures.removes) c.in_ok-remove_entries-3.ensures.removes)
    c.in_ok-append.ensures.ok
