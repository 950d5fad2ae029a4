use Rattle.std.proofs.Common.{◌≡◌, drop, map}
use Rattle.db_state.specs.Columns.{first_unknown}
use Rattle.db_select.specs.Predicates.{pred_column}
use Rattle.db_select.proofs.predicates.unknown_column.Given as goal

abbrev pub invariant-loop-pred : goal.invariant-loop-pred
invariant-loop-pred l = first_unknown (map pred_column (drop l.pred-index l.preds)) l.columns ≡ first_unknown (map pred_column l.preds) l.columns
