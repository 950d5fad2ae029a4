use Rattle.std.proofs.Common.{take}
use Rattle.db_rows.specs.Bounds.{AreTightNumbers, BoundNumbers}
use Rattle.db_rows.proofs.bounds.column_bounds.Given as goal

abbrev pub invariant-loop-cond : goal.invariant-loop-cond
invariant-loop-cond l = record {
  bound : BoundNumbers l.name l.conds l.bounds;
  tight : AreTightNumbers l.name (take l.cond-index l.conds) l.bounds;
}
