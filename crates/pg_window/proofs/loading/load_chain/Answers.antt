use Rattle.std.proofs.Common.{ℕ, ◌+◌, refl, sym, subst, arith}
use Rattle.ct_site.specs.laws.Calls.{same_then}
use Rattle.pg_window.proofs.Chains.{IsOnChain, chain_begins, next_on_chain, chain_whole}
use Rattle.pg_window.proofs.DiskReads.{reads_after, reads_none, same_none}
use Rattle.pg_window.specs.laws.Loads.{holds_on, loads_none, loads_then}
use Rattle.pg_window.proofs.loading.load_chain.Goals as goal

pub loop-done-init : goal.loop-done-init
loop-done-init g c = record {
  cache = c.requires;
  same = same_none _;
  reads = reads_none _;
  loads = loads_none c.args.sheets.now.items c.args.loaded.now.items;
  chain = λ top pages chain value s is long. chain_begins pages c.args.sheets.now.items chain value c.args.first c.args.count s.shows is long;
}

pub loop-done-preserved : goal.loop-done-preserved
loop-done-preserved g c = record {
  cache = c.load_long.ensures.cache;
  same = same_then _ _ _ c.loop-done.invariant.same c.load_long.ensures.same;
  reads = reads_after _ _ _ tt _ _ refl c.loop-done.invariant.reads c.in-Ok.ensures.reads;
  loads = loads_then c.args.sheets.now.items c.loop-done.sheets.items c.load_long.new.sheets.items c.args.loaded.now.items c.loop-done.loaded.items c.load_long.new.loaded.items c.loop-done.invariant.loads c.load_long.ensures.loads;
  chain = λ top pages chain value s is long.
      let p = c.loop-done.invariant.chain top pages chain value s is long in
      let n = next_on_chain pages c.args.sheets.now.items c.loop-done.sheets.items chain c.loop-done.number c.loop-done.done c.args.count p (omega (arith, c.loop-done-test.true)) in
      let l = c.in-Ok.ensures.long top pages n.next n.used (record { holds = holds_on _ _ _ _ pages c.loop-done.invariant.same s.holds; shows = p.adds.shows }) n.low n.kind in
      subst (λ (k : ℕ). IsOnChain pages c.args.sheets.now.items c.load_long.new.sheets.items chain k (c.loop-done.done + c.in-Ok.used) c.args.count) (sym l.0)
      (subst (λ (k : ℕ). IsOnChain pages c.args.sheets.now.items c.load_long.new.sheets.items chain n.next (c.loop-done.done + k) c.args.count) (sym l.1) (n.on c.load_long.new.sheets.items l.2));
}

pub returns-in-Err-clause-loads : goal.returns-in-Err-clause-loads
returns-in-Err-clause-loads g c =
    loads_then c.args.sheets.now.items c.loop-done.sheets.items c.load_long.new.sheets.items c.args.loaded.now.items c.loop-done.loaded.items c.load_long.new.loaded.items c.loop-done.invariant.loads c.load_long.ensures.loads

pub returns-clause-chain : goal.returns-clause-chain
returns-clause-chain g c = λ top pages chain value s is long.
    chain_whole pages c.args.sheets.now.items c.loop-done.sheets.items chain c.loop-done.number c.loop-done.done c.args.count s.holds.are (c.loop-done.invariant.chain top pages chain value s is long) (omega (arith, c.loop-done-test.false))
