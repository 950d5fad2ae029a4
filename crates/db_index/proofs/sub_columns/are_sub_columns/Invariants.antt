use Rattle.std.proofs.Common.{◌≡◌, length}
use Rattle.db_index.specs.Asking.{are_sub_columns}
use Rattle.db_index.proofs.sub_columns.are_sub_columns.Given as goal

abbrev pub invariant-loop-rest : goal.invariant-loop-rest
invariant-loop-rest l = are_sub_columns l.columns l.rest ≡ are_sub_columns l.columns l.subs

abbrev pub decreases-loop-rest : goal.decreases-loop-rest
decreases-loop-rest l = length l.rest
