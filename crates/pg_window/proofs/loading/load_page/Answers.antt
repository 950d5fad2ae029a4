use Rattle.std.proofs.Common.{refl, arith}
use Rattle.pg_window.proofs.Listing.{all_back}
use Rattle.pg_window.proofs.loading.load_page.Goals as goal

pub returns-in-Err-clause-back : goal.returns-in-Err-clause-back
returns-in-Err-clause-back g c =
    all_back c.args.sheets.now.items c.load_away.new.sheets.items c.load_away.new.sheets.items c.unload_behind.new.sheets.items c.args.loaded.now.items c.load_away.new.loaded.items c.load_away.new.loaded.items c.unload_behind.new.loaded.items c.len-count.result
    c.load_away.ensures.loads (omega (arith, c.len-count.ensures)) (refl, refl) c.unload_behind.ensures.sheets c.unload_behind.ensures.loaded
