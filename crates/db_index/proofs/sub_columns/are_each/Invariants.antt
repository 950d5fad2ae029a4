use Rattle.std.proofs.Common.{◌≡◌, length}
use Rattle.std.specs.List.{list_all}
use Rattle.db_index.specs.Asking.{is_sub_column}
use Rattle.db_index.proofs.sub_columns.are_each.Given as goal

abbrev pub invariant-loop-rest : goal.invariant-loop-rest
invariant-loop-rest l = list_all (is_sub_column l.columns) l.rest ≡ list_all (is_sub_column l.columns) l.names

abbrev pub decreases-loop-rest : goal.decreases-loop-rest
decreases-loop-rest l = length l.rest
