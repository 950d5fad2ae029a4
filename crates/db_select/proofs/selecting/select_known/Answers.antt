use Rattle.std.proofs.Common.{◌∙◌}
use Rattle.std.specs.Option.{option_map}
use Rattle.ct_keep.specs.laws.Composing.{reads_hold}
use Rattle.db_find.specs.Searches.{held_search}
use Rattle.db_select.specs.Looking.{shown_texts}
use Rattle.db_select.specs.Selecting.{selected_left}
use Rattle.db_select.specs.Choosing.{selection}
use Rattle.db_select.proofs.SearchLooks.{lines_few}
use Rattle.db_select.proofs.SelectLaws.{selects_reply}
use Rattle.db_select.proofs.selecting.select_known.Goals as goal

pub returns-clause-reply : goal.returns-clause-reply
returns-clause-reply g c = λ m k x holds stands there same.
    let behind = reads_hold _ _ k c.in_ok-found.ensures.reads holds in
    let rows = c.in_ok-found.ensures.rows m k x holds stands there same in
    let own = c.in_ok-found.ensures.own m k holds stands in
    c.in_ok-reply.ensures.reply m k x behind stands there same own ∙ selects_reply m c.args.table.now x (selection c.args.list.now c.args.orders.now) (option_map held_search c.args.search) c.args.conds.now c.in_ok-found.found rows

pub returns-in_err-found-clause-at_most : goal.returns-in_err-found-clause-at_most
returns-in_err-found-clause-at_most g c = c.in_err-found.ensures.at_most

pub returns-in_err-reply-clause-at_most : goal.returns-in_err-reply-clause-at_most
returns-in_err-reply-clause-at_most g c = λ m k x holds stands there same.
    lines_few k m c.args.table.now x (selection c.args.list.now c.args.orders.now) (option_map held_search c.args.search) c.args.conds.now (selected_left (shown_texts c.args.list.now c.args.columns.now) c.in_ok-found.found) _ _ _
    (c.in_ok-found.ensures.at_most m k x holds stands there same) c.found_reply.ensures.at_most

pub returns-clause-at_most : goal.returns-clause-at_most
returns-clause-at_most g c = λ m k x holds stands there same.
    lines_few k m c.args.table.now x (selection c.args.list.now c.args.orders.now) (option_map held_search c.args.search) c.args.conds.now (selected_left (shown_texts c.args.list.now c.args.columns.now) c.in_ok-found.found) _ _ _
    (c.in_ok-found.ensures.at_most m k x holds stands there same) c.in_ok-reply.ensures.at_most
