use Rattle.std.proofs.Common.{◌≡◌, length}
use Rattle.db_index.specs.Asking.{is_sub_column}
use Rattle.db_index.proofs.sub_columns.is_sub_column.Given as goal

abbrev pub invariant-loop-rest : goal.invariant-loop-rest
invariant-loop-rest l = is_sub_column l.rest l.name-2 ≡ is_sub_column l.columns l.name-2

abbrev pub decreases-loop-rest : goal.decreases-loop-rest
decreases-loop-rest l = length l.rest
