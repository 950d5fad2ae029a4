use Rattle.std.proofs.Common.{get_or, refl, subst, arith, ℕ, Option}
use Rattle.ct_site.specs.laws.Calls.{same_then}
use Rattle.pg_directory.specs.Pages.{no_child}
use Rattle.pg_directory.specs.Walking.{WalksLeaf}
use Rattle.pg_directory.proofs.DiskReads.{reads_none, reads_then}
use Rattle.pg_directory.proofs.PageReads.{holds_then, same_itself}
use Rattle.pg_directory.proofs.Walks.{some_within, leaves_begun, leaves_on, leaves_end, leaves_all}
use Rattle.pg_directory.proofs.walking.walk_leaves.Goals as goal

pub loop-i-init : goal.loop-i-init
loop-i-init g c = record {
  within = omega arith;
  cache = c.requires;
  same = same_itself _;
  reads = reads_none _;
  walked = λ top pages holds. leaves_begun pages c.args.leaves.now _;
}

pub returns-in_default-clause-walks : goal.returns-in_default-clause-walks
returns-in_default-clause-walks g c = λ top pages holds.
    let h = c.loop-i.invariant.walked top pages holds in
    let w = c.in-Ok.ensures.walks top pages h.done (holds_then _ _ _ _ pages c.loop-i.invariant.same holds) h.walked in
    leaves_end pages c.args.leaves.now c.loop-i.i c.loop-i-test.true c.loop-i.count c.loop-i.key.items h c.args.limit c.walk_leaf.new.key.items
    (subst (λ (o : Option ℕ). WalksLeaf o pages (get_or c.args.leaves.now c.loop-i.i no_child) h.done c.args.limit c.walk_leaf.new.key.items) c.in_default.is w)

pub loop-i-preserved : goal.loop-i-preserved
loop-i-preserved g c = record {
  within = some_within c.in-Ok.found c.in-Some.more c.args.limit c.in-Ok.ensures.within c.in-Some.is;
  cache = c.walk_leaf.ensures.cache;
  same = same_then _ _ _ c.loop-i.invariant.same c.walk_leaf.ensures.same;
  reads = reads_then _ _ _ tt _ _ refl c.loop-i.invariant.reads c.in-Ok.ensures.reads;
  walked = λ top pages holds.
      let h = c.loop-i.invariant.walked top pages holds in
      let w = c.in-Ok.ensures.walks top pages h.done (holds_then _ _ _ _ pages c.loop-i.invariant.same holds) h.walked in
      leaves_on pages c.args.leaves.now c.loop-i.i c.loop-i-test.true c.loop-i.count c.loop-i.key.items h c.in-Some.more c.walk_leaf.new.key.items
      (subst (λ (o : Option ℕ). WalksLeaf o pages (get_or c.args.leaves.now c.loop-i.i no_child) h.done c.args.limit c.walk_leaf.new.key.items) c.in-Some.is w);
}

pub returns-clause-walks : goal.returns-clause-walks
returns-clause-walks g c = λ top pages holds. leaves_all pages c.args.leaves.now c.loop-i.i c.loop-i.count c.args.limit c.loop-i.key.items (omega (arith, c.loop-i-test.false)) c.loop-i.invariant.within (c.loop-i.invariant.walked top pages holds)
