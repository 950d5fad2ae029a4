use Rattle.std.proofs.Common.{◌≡◌, ◌++◌, map}
use Rattle.db_select.specs.Ranking.{found_of}
use Rattle.db_select.proofs.ordering.rows_without_values.Given as goal

abbrev pub invariant-loop-row : goal.invariant-loop-row
invariant-loop-row l = l.found.items ++ map found_of l.row-iterator.rest.items ≡ map found_of l.fn.rows.items
