use Rattle.std.proofs.Common.{take}
use Rattle.db_rows.specs.Bounds.{AreTight, BoundRows}
use Rattle.db_rows.proofs.bounds.key_bounds.Given as goal

abbrev pub invariant-loop-cond : goal.invariant-loop-cond
invariant-loop-cond l = record {
  bound : BoundRows l.columns l.conds l.bounds;
  tight : AreTight l.columns (take l.cond-index l.conds) l.bounds;
}
