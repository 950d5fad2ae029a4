use Rattle.ct_entry.specs.laws.Removals.{removes_then, removes_appended}
use Rattle.ct_entry.proofs.removals.remove_entries.Goals as goal

pub returns-clause-removes : goal.returns-clause-removes
returns-clause-removes g c = removes_appended _ _ _ _ c.new-changes.ensures (removes_then _ _ _ c.in_ok-remove_own.ensures.removes c.in_ok-remove_longer.ensures.removes) c.in_ok-append.ensures.ok
