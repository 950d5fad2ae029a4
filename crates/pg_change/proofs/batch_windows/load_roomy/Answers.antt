use Rattle.std.proofs.Common.{List, sym, subst}
use Rattle.pg_window.specs.declared.sheets.Sheet.{Sheet}
use Rattle.pg_window.specs.Loading.{IsStoreWindow}
use Rattle.pg_window.specs.laws.Loads.{window_on}
use Rattle.pg_change.proofs.batch_windows.load_roomy.Goals as goal

pub returns-in-Err-clause-window : goal.returns-in-Err-clause-window
returns-in-Err-clause-window g c = λ top pages m w.
    subst (λ (s : List Sheet). IsStoreWindow (g.D.Disk.disk c.load_pages.new.disk) c.args.journal.now top pages m s) (sym c.in-Err.ensures.back.0)
    (window_on (g.D.Disk.disk c.args.disk.now) (g.D.Disk.disk c.load_pages.new.disk) c.args.journal.now top pages m c.args.sheets.now.items c.load_pages.ensures.same w)
