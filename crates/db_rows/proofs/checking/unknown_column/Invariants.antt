use Rattle.std.proofs.Common.{◌≡◌, drop}
use Rattle.db_state.specs.Columns.{first_unknown}
use Rattle.db_rows.specs.Checking.{cond_columns}
use Rattle.db_rows.proofs.checking.unknown_column.Given as goal

abbrev pub invariant-loop-cond : goal.invariant-loop-cond
invariant-loop-cond l = first_unknown (cond_columns (drop l.cond-index l.conds)) l.columns ≡ first_unknown (cond_columns l.conds) l.columns
