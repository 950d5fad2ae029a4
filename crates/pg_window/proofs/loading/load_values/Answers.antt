use Rattle.std.proofs.Common.{rules, ◌≡◌, ℕ, List, take, length, refl, ap, subst, arith}
use Rattle.std.proofs.lemmas.List.{length-map, take_all}
use Rattle.ct_site.specs.laws.Calls.{same_then}
use Rattle.pg_map.specs.Holding.{Placed, chains_of}
use Rattle.pg_map.specs.Kinds.{item_bytes}
use Rattle.pg_window.specs.Loading.{AddsLongs}
use Rattle.pg_window.proofs.Chains.{placed_at, value_more}
use Rattle.pg_window.proofs.DiskReads.{reads_after}
use Rattle.pg_window.specs.laws.Loads.{holds_on, loads_then}
use Rattle.pg_window.proofs.loading.load_values.Goals as goal

pub returns-in-Err-clause-loads : goal.returns-in-Err-clause-loads
returns-in-Err-clause-loads g c =
    loads_then c.args.sheets.now.items c.loop-i.sheets.items c.load_value.new.sheets.items c.args.loaded.now.items c.loop-i.loaded.items c.load_value.new.loaded.items c.loop-i.invariant.loads c.load_value.ensures.loads

pub loop-i-preserved : goal.loop-i-preserved
loop-i-preserved g c = record {
  cache = c.load_value.ensures.cache;
  same = same_then _ _ _ c.loop-i.invariant.same c.load_value.ensures.same;
  reads = reads_after _ _ _ tt _ _ refl c.loop-i.invariant.reads c.in-Ok.ensures.reads;
  loads = loads_then c.args.sheets.now.items c.loop-i.sheets.items c.load_value.new.sheets.items c.args.loaded.now.items c.loop-i.loaded.items c.load_value.new.loaded.items c.loop-i.invariant.loads c.load_value.ensures.loads;
  values = λ top pages ps s items stand bytes.
      let before = c.loop-i.invariant.values top pages ps s items stand bytes in
      let p = placed_at pages ps c.args.page.now c.loop-i.i c.in-Some.string.now items stand bytes (search rules) (search rules) in
      value_more pages c.args.sheets.now.items c.loop-i.sheets.items c.load_value.new.sheets.items ps c.args.page.now c.loop-i.i bytes (search rules) before
      (c.in-Ok.ensures.value top pages _ (record { holds = holds_on _ _ _ _ pages c.loop-i.invariant.same s.holds; shows = before.shows }) p.good p.stands p.is);
}

pub returns-clause-values : goal.returns-clause-values
returns-clause-values g c = λ top pages ps s items stand bytes.
    let e = ap (λ (l : List (List ℕ)). length l) bytes in
    let all : take c.loop-i.i ps ≡ ps = take_all c.loop-i.i ps (let t = c.loop-i-test.false in let n = c.count-i-end.ensures.count in omega (arith, e, t, n, length-map ps (λ (p : Placed). item_bytes p.item))) in
    subst (λ (l : List Placed). AddsLongs pages c.args.sheets.now.items c.loop-i.sheets.items (chains_of l)) all (c.loop-i.invariant.values top pages ps s items stand bytes)
