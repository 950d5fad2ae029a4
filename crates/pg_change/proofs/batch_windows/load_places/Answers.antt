use Rattle.std.proofs.Common.{◌≡◌, ◌∙◌, List, ℕ, sym, subst}
use Rattle.std.specs.Prelude.{map, OnOk}
use Rattle.pg_window.specs.declared.sheets.Sheet.{Sheet}
use Rattle.pg_window.specs.Loading.{ArePagesThere, IsStoreWindow}
use Rattle.pg_window.specs.Windows.{away_of}
use Rattle.pg_window.specs.laws.Loads.{window_on}
use Rattle.pg_change.specs.BatchWindows.{place_or, AreIn}
use Rattle.pg_change.proofs.BatchLoads.{after_ok, are_in, either_way}
use Rattle.pg_change.proofs.batch_windows.load_places.Goals as goal

pub returns-clause-window : goal.returns-clause-window
returns-clause-window g c = λ top pages m w.
    either_way (IsStoreWindow (g.D.Disk.disk c.load_pages.new.disk) c.args.journal.now top pages m c.load_pages.new.sheets.items)
    ((c.load_pages.new.sheets.items ≡ c.args.sheets.now.items) × (c.load_pages.new.loaded.items ≡ c.args.loaded.now.items)) c.load_pages.result (c.load_pages.ensures.window top pages m w) c.load_pages.ensures.back
    (λ back. subst (λ (s : List Sheet). IsStoreWindow (g.D.Disk.disk c.load_pages.new.disk) c.args.journal.now top pages m s) (sym back.0)
    (window_on (g.D.Disk.disk c.args.disk.now) (g.D.Disk.disk c.load_pages.new.disk) c.args.journal.now top pages m c.args.sheets.now.items c.load_pages.ensures.same w))

pub returns-clause-there : goal.returns-clause-there
returns-clause-there g c = λ top pages m w.
    after_ok (ArePagesThere pages (away_of c.load_pages.new.sheets.items) (map (place_or 18446744073709551615) c.args.entries.now)) (AreIn pages c.args.entries.now (away_of c.load_pages.new.sheets.items)) c.load_pages.result
    (are_in pages c.args.entries.now (away_of c.load_pages.new.sheets.items) 18446744073709551615)
    (subst (λ (l : List ℕ). OnOk c.load_pages.result (ArePagesThere pages (away_of c.load_pages.new.sheets.items) l)) (c.deref.ensures.value ∙ c.in-Ok.ensures) (c.load_pages.ensures.there top pages m w))
