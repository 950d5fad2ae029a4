use Rattle.std.proofs.Common.{◌≡◌, length}
use Rattle.db_state.specs.Columns.{first_unknown}
use Rattle.db_index.specs.Asking.{columns_named}
use Rattle.db_index.proofs.sub_columns.unknown_column.Given as goal

abbrev pub invariant-each : goal.invariant-each
invariant-each l = first_unknown (columns_named l.rest) l.columns ≡ first_unknown (columns_named l.subs) l.columns

abbrev pub decreases-each : goal.decreases-each
decreases-each l = length l.rest
