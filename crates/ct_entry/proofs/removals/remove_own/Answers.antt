use Rattle.ct_entry.specs.laws.Removals.{removes_one}
use Rattle.ct_entry.proofs.removals.remove_own.Goals as goal

pub returns-in_ok-remove_entry-clause-removes : goal.returns-in_ok-remove_entry-clause-removes
returns-in_ok-remove_entry-clause-removes g c = removes_one _ _ _ c.in_ok-remove_entry.ensures.ok
