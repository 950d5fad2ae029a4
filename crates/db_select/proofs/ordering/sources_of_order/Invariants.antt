use Rattle.std.proofs.Common.{◌≡◌, take}
use Rattle.db_select.specs.Ranking.{order_sources}
use Rattle.db_select.proofs.ordering.sources_of_order.Given as goal

abbrev pub invariant-loop-order : goal.invariant-loop-order
invariant-loop-order l = l.sources.items ≡ order_sources l.columns (take l.order-index l.orders)
