use Rattle.std.proofs.Common.{rules, arith, ℕ, List, refl, subst}
use Rattle.std.proofs.lemmas.Grind.{common_steps}
use Rattle.ct_site.specs.laws.Calls.{same_then}
use Rattle.pg_batch.specs.Places.{IsKeyPlace}
use Rattle.pg_batch.proofs.DiskReads.{goes_on, read_then}
use Rattle.pg_batch.proofs.Neighbours.{place_more, all_placed}
use Rattle.pg_batch.proofs.placing.places_of.Goals as goal

pub loop-i-preserved : goal.loop-i-preserved
loop-i-preserved g c = record {
  count = first_of (search rules, grind (arith, common_steps));
  cache = c.place_of.ensures.cache;
  same = same_then _ _ _ c.loop-i.invariant.same c.place_of.ensures.same;
  reads = read_then _ _ _ tt _ _ refl c.loop-i.invariant.reads c.in-Ok.ensures.reads;
  places = λ pages holds finds.
      let own = c.in-Ok.ensures.place pages (goes_on _ _ _ _ pages c.loop-i.invariant.same holds) finds in
      place_more pages c.args.changes.now c.loop-i.i c.index-changes-i.result c.loop-i.places.items c.push.new.self.items c.in-Ok.place c.loop-i-test.true (c.loop-i.invariant.places pages holds finds)
      (subst (λ (k : List ℕ). IsKeyPlace pages k c.in-Ok.place) c.deref.ensures.value own) c.in-Ok-push.ensures.items;
}

pub returns-clause-places : goal.returns-clause-places
returns-clause-places g c = λ pages holds finds.
    all_placed pages c.args.changes.now c.loop-i.i c.loop-i.places.items c.loop-i-test.false (c.loop-i.invariant.places pages holds finds)
