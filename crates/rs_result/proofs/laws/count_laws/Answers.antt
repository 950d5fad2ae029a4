use Rattle.rs_result.specs.laws.Counts.{counts_are, one_list_of_counts}
use Rattle.rs_result.specs.laws.Orders.{values_tie}
use Rattle.rs_result.proofs.laws.count_laws.Goals as goal

pub returns-clause-are : goal.returns-clause-are
returns-clause-are c = counts_are

pub returns-clause-only : goal.returns-clause-only
returns-clause-only c = one_list_of_counts

pub returns-clause-tie : goal.returns-clause-tie
returns-clause-tie c = values_tie
