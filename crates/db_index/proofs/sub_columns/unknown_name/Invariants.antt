use Rattle.std.proofs.Common.{◌≡◌, length}
use Rattle.db_state.specs.Columns.{first_unknown}
use Rattle.db_index.proofs.sub_columns.unknown_name.Given as goal

abbrev pub invariant-loop-rest : goal.invariant-loop-rest
invariant-loop-rest l = first_unknown l.rest l.columns ≡ first_unknown l.names l.columns

abbrev pub decreases-loop-rest : goal.decreases-loop-rest
decreases-loop-rest l = length l.rest
