use Rattle.std.proofs.Common.{◌≡◌, ℕ, sym, subst}
use Rattle.std.specs.Prelude.{IfOk, Vec}
use Rattle.std.specs.declared.alloc.Global.{Global}
use Rattle.db_select.specs.declared.finds.Selected.{Selected}
use Rattle.db_select.specs.Listing.{found_reply}
use Rattle.db_select.specs.Selecting.{SelectedOwn}
use Rattle.db_select.proofs.listing.found_reply.Goals as goal

pub returns-in-Rows-clause-reply : goal.returns-in-Rows-clause-reply
returns-in-Rows-clause-reply g c = λ m k x holds stands there same own.
    subst (λ (found : Selected). IfOk c.rows_reply.result (λ (reply : Vec ℕ Global). reply.items ≡ found_reply m.tables c.args.table.now x.columns c.args.list.now found))
    (sym c.in-Rows.is)
    (c.rows_reply.ensures.reply m k x holds stands there same (subst (λ (found : Selected). SelectedOwn m.tables c.args.table.now found) c.in-Rows.is own))
