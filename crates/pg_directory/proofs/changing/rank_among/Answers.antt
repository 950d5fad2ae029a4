use Rattle.std.proofs.Common.{◌+◌, ◌-◌, ◌/◌, ◌<◌, length, get_or, refl, sym, ◌∙◌, arith}
use Rattle.ct_site.specs.Disks.{works_then}
use Rattle.ct_site.specs.laws.Calls.{same_then, works_as}
use Rattle.pg_directory.specs.Pages.{no_entry}
use Rattle.pg_directory.specs.Trees.{HasString}
use Rattle.pg_directory.specs.laws.Pages.{each_at}
use Rattle.pg_directory.proofs.PageReads.{holds_then}
use Rattle.pg_directory.proofs.Ranks.{rank_step, is_rank, test_missing, middle_between}
use Rattle.pg_directory.proofs.changing.rank_among.Goals as goal

pub returns-in_default-clause-rank : goal.returns-in_default-clause-rank
returns-in_default-clause-rank g c = λ top pages holds strings rise.
    let b = c.loop-low.invariant.between top pages holds strings rise in
    let m = middle_between c.loop-low.low c.loop-low.high c.loop-low-test.true in
    let there : c.loop-low.low + (c.loop-low.high - c.loop-low.low) / 2 < length c.args.places.now = omega (arith, m.1, b.most) in
    test_missing c.in_ok-above.field-0 _
    (c.in_ok-above.ensures.above top pages (holds_then _ _ _ _ pages c.loop-low.invariant.same holds)
    (each_at (HasString pages) c.args.places.now (c.loop-low.low + (c.loop-low.high - c.loop-low.low) / 2) no_entry strings there))
    c.in_default.is

pub loop-low-preserved : goal.loop-low-preserved
loop-low-preserved g c = record {
  order = c.half_of-half.ensures.order;
  within = omega (arith, c.half_of-half.ensures.within, c.loop-low.invariant.within);
  cache = c.is_above.ensures.cache;
  same = same_then _ _ _ c.loop-low.invariant.same c.is_above.ensures.same;
  works = works_as _ _ _ tt (works_then _ _ _ _ _ c.loop-low.invariant.works c.in_ok-above.ensures.works);
  between = λ top pages holds strings rise.
      let b = c.loop-low.invariant.between top pages holds strings rise in
      let m = middle_between c.loop-low.low c.loop-low.high c.loop-low-test.true in
      rank_step pages c.args.places.now c.args.key.now c.loop-low.low (c.loop-low.low + (c.loop-low.high - c.loop-low.low) / 2) c.loop-low.high c.half_of-half.result.0 c.half_of-half.result.1 (get_or c.args.places.now (c.loop-low.low + (c.loop-low.high - c.loop-low.low) / 2) no_entry) c.in-Some.above b rise strings m.0 m.1
      refl
      (λ has. sym c.in-Some.is ∙ c.in_ok-above.ensures.above top pages (holds_then _ _ _ _ pages c.loop-low.invariant.same holds) has) c.half_of-half.ensures.half;
}

pub returns-clause-rank : goal.returns-clause-rank
returns-clause-rank g c = λ top pages holds strings rise.
    is_rank pages c.args.places.now c.args.key.now c.loop-low.low c.loop-low.high (c.loop-low.invariant.between top pages holds strings rise) c.loop-low.invariant.order c.loop-low-test.false
