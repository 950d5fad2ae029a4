use Rattle.std.proofs.Common.{rules, ◌<◌, ◌≤◌, [], get_or, sym, ◌∙◌, arith}
use Rattle.pg_window.specs.Sheets.{sheet_kinds}
use Rattle.pg_window.specs.Windows.{away_of}
use Rattle.pg_window.specs.laws.Windows.{split_window}
use Rattle.pg_window.specs.laws.Loads.{holds_on, loads_then, window_on}
use Rattle.pg_window.proofs.Loaded.{page_loaded, page_strings, slotted_bytes, slotted_there, slotted_within}
use Rattle.pg_window.proofs.Reading.{kept_given}
use Rattle.pg_window.proofs.loading.load_away.Goals as goal

pub returns-in_default-slotted_of-clause-there : goal.returns-in_default-slotted_of-clause-there
returns-in_default-slotted_of-clause-there g c = λ top pages m ss v is.
    let within = slotted_within pages c.args.at ss is in
    let n = c.in-Some.ensures.number in
    let kept = c.in-Ok.ensures.page top pages v.holds (omega (arith, n)) (omega (arith, n, within, v.holds.count)) in
    let bytes = kept_given c.page_behind.new.cache _ kept c.in-Some-found.is c.page.ensures in
    let own = slotted_bytes pages c.args.at c.in-Some.number v.holds.are n c.page.result.now bytes ss is in
    let found = c.slotted_of.ensures.slotted ss own.0 own.1 in
    absurd (cc (sym found ∙ c.in_default-slotted_of.is))

pub returns-in_default-slotted_of-clause-window : goal.returns-in_default-slotted_of-clause-window
returns-in_default-slotted_of-clause-window g c = λ top pages m v. window_on _ _ _ _ pages m c.args.sheets.now.items c.in-Ok.ensures.same v

pub returns-in_default-put_slotted-clause-loads : goal.returns-in_default-put_slotted-clause-loads
returns-in_default-put_slotted-clause-loads g c =
    loads_then c.args.sheets.now.items c.load_values.new.sheets.items c.put_slotted.new.sheets.items c.args.loaded.now.items c.load_values.new.loaded.items c.put_slotted.new.loaded.items c.load_values.ensures.loads c.put_slotted.ensures.loads

pub returns-clause-window : goal.returns-clause-window
returns-clause-window g c = λ top pages m v.
    let n = c.in-Some.ensures.number in
    let b : (3 ≤ c.in-Some.number) × (c.in-Some.number < c.args.journal.now) = search rules in
    let kept = c.in-Ok.ensures.page top pages v.holds b.0 b.1 in
    let bytes = kept_given c.page_behind.new.cache _ kept c.in-Some-found.is c.page.ensures in
    let own = c.in-Some-slotted_of.ensures.some in
    let is = slotted_there pages c.args.at c.in-Some.number v.holds.are n c.page.result.now bytes c.in-Some-slotted_of.page (omega (arith, n, b.1, v.holds.count)) own.0 own.1 in
    let w = v.window in
    let s = split_window pages m (sheet_kinds c.args.sheets.now.items) (away_of c.args.sheets.now.items) w.closed.0 v.layout w w.closed.1 in
    let o = page_strings pages m c.args.sheets.now.items w.closed.0 c.args.at c.in-Some-slotted_of.page s is in
    let adds = c.in-Ok-load_values.ensures.values top pages (get_or s.parts c.args.at []) (record { holds = holds_on _ _ _ _ pages c.in-Ok.ensures.same v.holds; shows = w.shows }) o.items o.stand o.is in
    record {
      holds = holds_on _ _ _ _ pages c.load_values.ensures.same (holds_on _ _ _ _ pages c.in-Ok.ensures.same v.holds);
      layout = v.layout;
      window = page_loaded pages m c.args.sheets.now.items c.load_values.new.sheets.items c.put_slotted.new.sheets.items w.closed.0 c.args.at c.in-Some-slotted_of.page s w.shows adds c.in-Ok-put_slotted.ensures.puts is;
    }

pub returns-clause-loads : goal.returns-clause-loads
returns-clause-loads g c =
    loads_then c.args.sheets.now.items c.load_values.new.sheets.items c.put_slotted.new.sheets.items c.args.loaded.now.items c.load_values.new.loaded.items c.put_slotted.new.loaded.items c.load_values.ensures.loads c.put_slotted.ensures.loads
