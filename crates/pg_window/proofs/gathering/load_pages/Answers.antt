use Rattle.std.proofs.Common.{rules, ℕ, List, length, refl, ap, subst, arith, length-append}
use Rattle.std.proofs.lemmas.List.{take_all}
use Rattle.ct_site.specs.laws.Calls.{same_then}
use Rattle.pg_window.specs.Loading.{ArePagesThere}
use Rattle.pg_window.specs.Windows.{away_of}
use Rattle.pg_window.specs.laws.Loads.{loads_none, loads_then, loads_there}
use Rattle.pg_window.proofs.DiskReads.{reads_after, reads_none, same_none}
use Rattle.pg_window.proofs.Listing.{all_back, there_more}
use Rattle.pg_window.proofs.gathering.load_pages.Goals as goal

pub loop-i-init : goal.loop-i-init
loop-i-init g c = record {
  cache = c.requires;
  same = same_none _;
  reads = reads_none _;
  loads = loads_none c.args.sheets.now.items c.args.loaded.now.items;
  window = λ top pages m w. w;
  there = λ top pages m w. record { each = λ i ss less is. absurd (omega (arith, less)) };
}

pub loop-i-preserved : goal.loop-i-preserved
loop-i-preserved g c = record {
  cache = c.load_page.ensures.cache;
  same = same_then _ _ _ c.loop-i.invariant.same c.load_page.ensures.same;
  reads = reads_after _ _ _ tt _ _ refl c.loop-i.invariant.reads c.in-Ok.ensures.reads;
  loads = loads_then c.args.sheets.now.items c.loop-i.sheets.items c.load_page.new.sheets.items c.args.loaded.now.items c.loop-i.loaded.items c.load_page.new.loaded.items c.loop-i.invariant.loads c.in-Ok.ensures.loads;
  window = λ top pages m w. c.in-Ok.ensures.window top pages m (c.loop-i.invariant.window top pages m w);
  there = λ top pages m w.
      there_more pages (away_of c.loop-i.sheets.items) (away_of c.load_page.new.sheets.items) c.args.places.now c.loop-i.i (search rules) (c.loop-i.invariant.there top pages m w)
      (λ a was. loads_there c.loop-i.sheets.items c.load_page.new.sheets.items c.loop-i.loaded.items c.load_page.new.loaded.items a c.in-Ok.ensures.loads was)
      (λ ss is. c.in-Ok.ensures.there top pages m ss (c.loop-i.invariant.window top pages m w) is);
}

pub returns-clause-there : goal.returns-clause-there
returns-clause-there g c = λ top pages m w.
    subst (ArePagesThere pages (away_of c.loop-i.sheets.items)) (take_all c.loop-i.i c.args.places.now (omega (arith, c.loop-i-test.false))) (c.loop-i.invariant.there top pages m w)

pub unload_behind-requires : goal.unload_behind-requires
unload_behind-requires g c =
    let a = ap (λ (l : List ℕ). length l) c.in-Err.ensures.back.1 in
    let b = ap (λ (l : List ℕ). length l) c.loop-i.invariant.loads.list in
    omega (arith, a, b, c.len-count.ensures, length-append c.args.loaded.now.items c.loop-i.invariant.loads.more)

pub returns-in-Err-clause-back : goal.returns-in-Err-clause-back
returns-in-Err-clause-back g c =
    all_back c.args.sheets.now.items c.loop-i.sheets.items c.load_page.new.sheets.items c.unload_behind.new.sheets.items c.args.loaded.now.items c.loop-i.loaded.items c.load_page.new.loaded.items c.unload_behind.new.loaded.items c.len-count.result
    c.loop-i.invariant.loads (omega (arith, c.len-count.ensures)) c.in-Err.ensures.back c.unload_behind.ensures.sheets c.unload_behind.ensures.loaded
