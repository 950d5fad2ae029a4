use Rattle.std.proofs.Common.{ℕ, List, [], get_or, sym, subst, arith}
use Rattle.ct_site.specs.laws.Calls.{same_then}
use Rattle.ct_keep.specs.Counting.{AreCounts, CountsMore}
use Rattle.pg_directory.specs.Listing.{entry_at}
use Rattle.pg_directory.specs.Pages.{no_entry}
use Rattle.pg_directory.specs.Trees.{HasString}
use Rattle.pg_directory.specs.laws.Pages.{each_at}
use Rattle.pg_heap.proofs.OwnerCounts.{content_from, given_entry, one_counted, all_counted, count_few, none_counted, none_few, reads_more, reads_nothing}
use Rattle.pg_heap.proofs.Loadings.{holds_on}
use Rattle.pg_change.specs.laws.Commits.{same_itself}
use Rattle.pg_heap.proofs.owner_counting.count_owners.Goals as goal

pub loop-i-init : goal.loop-i-init
loop-i-init g c = record {
  cache = c.requires;
  same = same_itself _;
  reads = reads_nothing _;
  few = λ p. none_few _ c.new-counts.ensures p;
  counts = λ top pages m holds layout there. subst (AreCounts (content_from [])) (sym c.new-counts.ensures) none_counted;
}

pub loop-i-preserved : goal.loop-i-preserved
loop-i-preserved g c = record {
  cache = c.read_entry.ensures.cache;
  same = same_then _ _ _ c.loop-i.invariant.same c.read_entry.ensures.same;
  reads = reads_more _ _ _ c.in-Ok.found c.loop-i.invariant.reads c.in-Ok.ensures.reads;
  few = λ p. count_few c.loop-i.i c.loop-i.counts c.add.new.self c.deref.result.now p c.loop-i.invariant.few c.in-Ok-add.ensures.ok;
  counts = λ top pages m holds layout there.
      let has = each_at (HasString pages) c.args.places.now c.loop-i.i no_entry there.strings c.loop-i-test.true in
      let e = given_entry c.in-Ok.found c.in-Some.key _ (entry_at pages (get_or c.args.places.now c.loop-i.i no_entry)) (c.in-Ok.ensures.entry top pages m (holds_on _ _ _ _ pages c.loop-i.invariant.same holds) layout has) c.in-Some.is in
      one_counted pages m holds.are layout c.args.places.now there c.loop-i.i c.loop-i.counts c.add.new.self (c.in-Some.key.items, _) c.loop-i-test.true e (c.loop-i.invariant.counts top pages m holds layout there)
      (subst (λ (l : List ℕ). CountsMore l c.loop-i.counts c.add.new.self) c.deref.ensures.value c.in-Ok-add.ensures.ok);
}

pub returns-clause-counts : goal.returns-clause-counts
returns-clause-counts g c = λ top pages m holds layout there.
    all_counted pages m holds.are layout c.args.places.now there c.loop-i.i _ (omega (arith, c.loop-i-test.false)) (c.loop-i.invariant.counts top pages m holds layout there)
