use Rattle.std.proofs.Common.{ℕ, List, ◌∷◌, [], length, ap, arith, length-append}
use Rattle.pg_window.proofs.Listing.{unload_more}
use Rattle.pg_window.proofs.unloading.unload_behind.Goals as goal

pub loop-loaded-preserved-in-Some : goal.loop-loaded-preserved-in-Some
loop-loaded-preserved-in-Some c =
    let u = unload_more c.args.loaded.now.items c.loop-loaded.loaded.items c.pop.new.self.items c.in-Some.at c.args.sheets.now.items c.loop-loaded.sheets.items c.set_sheet.new.sheets.items
    c.loop-loaded.invariant.front c.loop-loaded.invariant.gone c.in-Some.ensures.items c.set_sheet.ensures in
    let e = ap (λ (l : List ℕ). length l) c.in-Some.ensures.items in
    record {
      few = let t = c.loop-loaded-test.true in let l = c.len.ensures in omega (arith, e, t, l, length-append c.pop.new.self.items (c.in-Some.at ∷ []));
      many = let m = c.loop-loaded.invariant.many in omega (arith, e, m, length-append c.pop.new.self.items (c.in-Some.at ∷ []));
      front = u.0;
      gone = u.1;
    }
