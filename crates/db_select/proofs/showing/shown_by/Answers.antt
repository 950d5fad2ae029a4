use Rattle.std.proofs.Common.{sym, ◌∙◌}
use Rattle.db_select.proofs.ShownLaws.{none_from_empty, none_kept}
use Rattle.db_select.proofs.showing.shown_by.Goals as goal

pub returns-then-is_empty : goal.returns-then-is_empty
returns-then-is_empty c = λ few.
    none_kept c.args.list.now c.args.orders.now c.args.columns.now c.in-CountAll.is (none_from_empty c.args.orders.now (sym c.is_empty.ensures ∙ c.if-is_empty.true))
