use Rattle.std.proofs.Common.{refl, arith}
use Rattle.ct_site.specs.laws.Calls.{same_then}
use Rattle.pg_directory.specs.Pages.{no_entry}
use Rattle.pg_directory.specs.Trees.{HasString}
use Rattle.pg_directory.specs.laws.Pages.{each_at}
use Rattle.pg_directory.proofs.DiskReads.{reads_none, reads_then}
use Rattle.pg_directory.proofs.Fetched.{one_number}
use Rattle.pg_directory.proofs.PageReads.{holds_then, same_itself}
use Rattle.pg_directory.proofs.Surveys.{one_weighed, all_weighed}
use Rattle.pg_directory.proofs.surveying.weigh.Goals as goal

pub loop-i-init : goal.loop-i-init
loop-i-init g c = record {
  cache = c.requires;
  same = same_itself _;
  reads = reads_none _;
  total = λ top pages m holds layout there. refl;
}

pub loop-i-preserved : goal.loop-i-preserved
loop-i-preserved g c = record {
  cache = c.weight_at.ensures.cache;
  same = same_then _ _ _ c.loop-i.invariant.same c.weight_at.ensures.same;
  reads = reads_then _ _ _ tt _ _ refl c.loop-i.invariant.reads c.in-Ok.ensures.reads;
  total = λ top pages m holds layout there.
      let has = each_at (HasString pages) c.args.places.now c.loop-i.i no_entry there.strings c.loop-i-test.true in
      let own = one_number c.in-Ok.found c.in-Some.own _ c.in-Some.is (c.in-Ok.ensures.weight top pages m (holds_then _ _ _ _ pages c.loop-i.invariant.same holds) layout has) in
      one_weighed pages c.args.places.now c.loop-i.i c.loop-i.total c.in-Some.own c.in-Some-checked_add.sum c.loop-i-test.true (c.loop-i.invariant.total top pages m holds layout there) own (omega (arith, c.in-Some-checked_add.ensures));
}

pub returns-clause-weight : goal.returns-clause-weight
returns-clause-weight g c = λ top pages m holds layout there.
    all_weighed pages m holds.are layout c.args.places.now c.loop-i.i c.loop-i.total there (omega (arith, c.loop-i-test.false)) (c.loop-i.invariant.total top pages m holds layout there)
