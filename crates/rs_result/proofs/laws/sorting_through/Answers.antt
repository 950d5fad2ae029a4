use Rattle.rs_result.specs.laws.Sorting.{sorted_through}
use Rattle.rs_result.proofs.laws.sorting_through.Goals as goal

pub returns : goal.returns
returns g c = sorted_through
