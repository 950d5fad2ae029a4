use Rattle.std.proofs.Common.{rules}
use Rattle.pg_window.proofs.Listing.{rest_more}
use Rattle.pg_window.proofs.unloading.rest_pages.Goals as goal

pub loop-done-preserved : goal.loop-done-preserved
loop-done-preserved c =
    rest_more c.args.numbers.now c.loop-done.done c.saturating_sub.result c.args.sheets.now.items c.loop-done.sheets.items c.rest_sheet.new.sheets.items (search rules) c.saturating_sub.ensures c.loop-done.invariant c.rest_sheet.ensures
