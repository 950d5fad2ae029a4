use Rattle.std.proofs.Common.{◌≡◌, drop}
use Rattle.db_state.specs.Columns.{first_unknown}
use Rattle.db_select.specs.Predicates.{order_columns}
use Rattle.db_select.proofs.predicates.unknown_ordered.Given as goal

abbrev pub invariant-loop-order : goal.invariant-loop-order
invariant-loop-order l = first_unknown (order_columns (drop l.order-index l.orders)) l.columns ≡ first_unknown (order_columns l.orders) l.columns
