use Rattle.std.proofs.Common.{Option, sym, subst}
use Rattle.std.specs.Prelude.{IfOk}
use Rattle.std.specs.Option.{option_map}
use Rattle.db_find.specs.declared.searches.Search.{Search}
use Rattle.db_find.specs.Searches.{held_search}
use Rattle.db_select.specs.declared.finds.Selected.{Selected}
use Rattle.db_select.specs.Selecting.{Selects}
use Rattle.db_select.specs.Choosing.{selection}
use Rattle.db_select.proofs.SearchLooks.{sought_few, unsought_few}
use Rattle.db_select.proofs.selecting.selected_rows.Goals as goal

pub returns-in-None-clause-rows : goal.returns-in-None-clause-rows
returns-in-None-clause-rows g c = λ m k x holds stands there same.
    subst (λ (s : Option Search). IfOk c.met_rows.result (λ (found : Selected). Selects m c.args.table.now x (selection c.args.list.now c.args.orders.now) (option_map held_search s) c.args.conds.now found))
    (sym c.in-None.is)
    (c.met_rows.ensures.rows m k x holds stands there same)

pub returns-in-Some-clause-rows : goal.returns-in-Some-clause-rows
returns-in-Some-clause-rows g c = λ m k x holds stands there same.
    subst (λ (s : Option Search). IfOk c.searched_rows.result (λ (found : Selected). Selects m c.args.table.now x (selection c.args.list.now c.args.orders.now) (option_map held_search s) c.args.conds.now found))
    (sym c.in-Some.is)
    (c.searched_rows.ensures.rows m k x holds stands there same)

pub returns-in-None-clause-at_most : goal.returns-in-None-clause-at_most
returns-in-None-clause-at_most g c = λ m k x holds stands there same.
    unsought_few c.args.search c.in-None.is k m c.args.table.now x (selection c.args.list.now c.args.orders.now) c.args.conds.now _ _ _

pub returns-in-Some-clause-at_most : goal.returns-in-Some-clause-at_most
returns-in-Some-clause-at_most g c = λ m k x holds stands there same.
    sought_few c.args.search c.in-Some.search c.in-Some.is k m c.args.table.now x (selection c.args.list.now c.args.orders.now) c.args.conds.now _ _ _ (c.searched_rows.ensures.at_most m k x holds stands there same)
