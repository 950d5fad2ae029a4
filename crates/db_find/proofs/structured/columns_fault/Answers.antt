use Rattle.db_find.proofs.Refusals.{refused_by_conds, refused_by_orders}
use Rattle.db_find.proofs.structured.columns_fault.Goals as goal

pub returns-in-Some : goal.returns-in-Some
returns-in-Some c =
    refused_by_conds c.args.columns.now c.args.subs.now c.args.asked.now c.as_slice.result.now c.conds_fault.result c.in-Some.fault c.as_slice.ensures c.in-Some.is c.conds_fault.ensures

pub returns-in-None : goal.returns-in-None
returns-in-None c =
    refused_by_orders c.args.columns.now c.args.subs.now c.args.asked.now c.as_slice.result.now c.as_slice-in-None.result.now c.conds_fault.result c.orders_fault.result
    c.as_slice.ensures c.as_slice-in-None.ensures c.in-None.is c.conds_fault.ensures c.orders_fault.ensures
