use Rattle.std.proofs.Common.{ℕ, List, subst}
use Rattle.db_range.specs.Ranges.{Covers, IsRangeOf}
use Rattle.db_range.proofs.BestSteps.{all_left, better, fewer_left, plain_one}
use Rattle.db_range.proofs.choosing.best_sub_index.Goals as goal

pub each-init : goal.each-init
each-init c = record {
  best = plain_one c.args.columns.now c.args.conds.now c.args.subs.now c.whole-range.result c.whole-range.ensures;
  left = all_left c.args.subs.now;
}

pub each-preserved : goal.each-preserved
each-preserved c =
    let columns = c.args.columns.now in
    let conds = c.args.conds.now in
    let range = c.in_ok-range.range in
    let is = subst (λ (ns : List (List ℕ)). IsRangeOf columns conds ns range) c.as_slice.ensures c.in_ok-range.ensures.range in
    let covers = subst (λ (ns : List (List ℕ)). Covers columns ns conds range) c.as_slice.ensures c.in_ok-range.ensures.covers in
    let rest = c.each.rest.now in
    let names = c.in-Some.names.now in
    let later = c.in-Some.later.now in
    record {
      best = better columns conds c.args.subs.now rest c.each.sub names later c.in-Some.ensures.cases.0 c.each.invariant.left c.each.best c.narrower-best.result range c.each.invariant.best is covers c.narrower-best.ensures;
      left = fewer_left columns conds c.args.subs.now rest c.each.sub names later c.in-Some.ensures.cases.0 c.each.invariant.left;
    }
