use Rattle.std.proofs.Common.{◌≡◌, drop, map}
use Rattle.db_find.specs.Structured.{first_refusal, item_refusal}
use Rattle.db_find.proofs.structured.orders_fault.Given as goal

abbrev pub invariant-loop-order : goal.invariant-loop-order
invariant-loop-order l = first_refusal (map (λ o. item_refusal l.subs o.item) (drop l.order-index l.orders)) ≡ first_refusal (map (λ o. item_refusal l.subs o.item) l.orders)
