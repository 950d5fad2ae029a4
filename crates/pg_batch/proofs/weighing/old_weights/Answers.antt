use Rattle.std.proofs.Common.{None, refl, ◌∙◌, arith}
use Rattle.ct_site.specs.laws.Calls.{same_then}
use Rattle.pg_batch.proofs.DiskReads.{goes_on, read_then}
use Rattle.pg_batch.proofs.Weighed.{place_at, all_old}
use Rattle.pg_batch.proofs.weighing.old_weights.Goals as goal

pub loop-i-preserved : goal.loop-i-preserved
loop-i-preserved g c = record {
  small = omega (arith, c.loop-i.invariant.small);
  cache = c.weight_at.ensures.cache;
  same = same_then _ _ _ c.loop-i.invariant.same c.weight_at.ensures.same;
  reads = read_then _ _ _ tt _ _ refl c.loop-i.invariant.reads c.in-Ok.ensures.reads;
  total = λ top pages holds m ws layout are.
      let p = place_at pages m ws c.args.places.now c.loop-i.i None are c.loop-i-test.true in
      let own = c.in-Ok.ensures.weight top pages (goes_on _ _ _ _ pages c.loop-i.invariant.same holds) m p.key layout p.place in
      let more = p.more in
      let before = c.loop-i.invariant.total top pages holds m ws layout are in
      omega (arith, own, more, before);
}

pub returns-clause-weight : goal.returns-clause-weight
returns-clause-weight g c = λ top pages holds m ws layout are.
    c.loop-i.invariant.total top pages holds m ws layout are ∙ all_old pages m ws c.args.places.now c.loop-i.i are c.loop-i-test.false
