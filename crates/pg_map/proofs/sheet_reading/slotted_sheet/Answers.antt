use Rattle.std.proofs.Common.{sym, ◌∙◌}
use Rattle.pg_map.proofs.SheetReads.{page_is}
use Rattle.pg_map.proofs.sheet_reading.slotted_sheet.Goals as goal

pub returns-in-Ok : goal.returns-in-Ok
returns-in-Ok c = (c.in-Ok.ensures.page.0, page_is c.in-Ok.page ∙ sym c.in-Ok.ensures.page.1)

pub returns-in-Err : goal.returns-in-Err
returns-in-Err c = λ ss fits is. c.in-Err.ensures.none ss fits (sym is ∙ page_is ss)
