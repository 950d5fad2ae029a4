use Rattle.std.proofs.Common.{◌≡◌, ◌++◌, drop}
use Rattle.db_select.specs.Choosing.{first_items}
use Rattle.db_select.proofs.FirstItems.{still_first}
use Rattle.db_select.proofs.choosing.first_items.Given as goal

abbrev pub invariant-loop-order : goal.invariant-loop-order
invariant-loop-order l = l.first.items ++ still_first l.first.items (drop l.order-index l.orders) ≡ first_items l.orders
