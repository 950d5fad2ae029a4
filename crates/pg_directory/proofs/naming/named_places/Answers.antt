use Rattle.std.proofs.Common.{◌∙◌, ap, arith}
use Rattle.ct_site.specs.laws.Calls.{same_then}
use Rattle.pg_directory.specs.Trees.{bytes_of_page}
use Rattle.pg_directory.proofs.DiskReads.{reads_none, reads_further}
use Rattle.pg_directory.proofs.LevelReads.{given_behind}
use Rattle.pg_directory.proofs.Namings.{none_named_yet, next_leaf, all_named_now}
use Rattle.pg_directory.proofs.PageReads.{holds_then, same_itself}
use Rattle.pg_directory.proofs.Steps.{page_given}
use Rattle.pg_directory.proofs.naming.named_places.Goals as goal

pub loop-i-init : goal.loop-i-init
loop-i-init g c = record {
  cache = c.requires;
  same = same_itself _;
  reads = reads_none _;
  named = λ top pages es holds are. none_named_yet pages c.args.leaves.now es c.new-places.result.items c.new-places.ensures.items are;
}

pub loop-i-preserved : goal.loop-i-preserved
loop-i-preserved g c = record {
  cache = c.page_behind.ensures.cache;
  same = same_then _ _ _ c.loop-i.invariant.same c.page_behind.ensures.same;
  reads = reads_further _ _ _ c.in-Ok.found c.loop-i.invariant.reads c.in-Ok.ensures.works;
  named = λ top pages es holds are.
      let n = next_leaf pages holds.are c.args.leaves.now c.loop-i.i es c.loop-i.places.items c.loop-i-test.true (c.loop-i.invariant.named top pages es holds are) in
      let b = given_behind c.in-Ok.found c.in-Some.kept _ c.in-Ok.ensures.behind c.in-Some.is in
      let page = page_given c.in-Ok.found _ _ _ c.page.result.now (c.in-Ok.ensures.page top pages (holds_then _ _ _ _ pages c.loop-i.invariant.same holds) b.0 b.1) c.in-Some.is c.page.ensures in
      n.on c.put_named.new.into.items (c.in-Ok-put_named.ensures n.own n.good (page ∙ ap bytes_of_page n.at));
}

pub returns-clause-places : goal.returns-clause-places
returns-clause-places g c = λ top pages es holds are. all_named_now pages c.args.leaves.now c.loop-i.i es c.loop-i.places.items (omega (arith, c.loop-i-test.false)) (c.loop-i.invariant.named top pages es holds are)
