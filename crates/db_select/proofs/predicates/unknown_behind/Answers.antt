use Rattle.std.proofs.Common.{map, sym, ◌∙◌}
use Rattle.db_select.specs.Predicates.{order_columns, pred_column}
use Rattle.db_select.proofs.PredicateLaws.{unknown_first, unknown_second}
use Rattle.db_select.proofs.predicates.unknown_behind.Goals as goal

pub returns-in-Some : goal.returns-in-Some
returns-in-Some c = sym (unknown_first (map pred_column c.args.preds.now) (order_columns c.args.orders.now) c.args.columns.now c.in-Some.name.now (sym c.in-Some.ensures))

pub returns-in-None : goal.returns-in-None
returns-in-None c = c.unknown_ordered.ensures ∙ sym (unknown_second (map pred_column c.args.preds.now) (order_columns c.args.orders.now) c.args.columns.now (sym c.in-None.ensures))
