use Rattle.rs_result.specs.laws.Orders.{rising_rows_differ, rising_rows_stay}
use Rattle.rs_result.proofs.laws.row_laws.Goals as goal

pub returns-clause-differ : goal.returns-clause-differ
returns-clause-differ g c = rising_rows_differ

pub returns-clause-stay : goal.returns-clause-stay
returns-clause-stay g c = rising_rows_stay
