use Rattle.std.proofs.Common.{List, ℕ, ◌∷◌, arith, ap, sym, ◌∙◌}
use Rattle.ct_keep.specs.laws.Composing.{reads_on, reads_hold}
use Rattle.q_tree.specs.Soundness.{is_key}
use Rattle.rule_index.specs.laws.Looks.{nothing_then}
use Rattle.rule_index.proofs.FoundSteps.{key_fits, keys_left, look_end, look_first, look_next}
use Rattle.rule_index.proofs.matching.filed_rows.Goals as goal

pub each-init : goal.each-init
each-init g c = record {
  keys = c.requires.keys;
  reads = c.in_ok-add_filed.ensures.reads;
  rows = λ m holds. look_first c.args.index.now m c.new-rows.result c.add_filed.new.rows c.args.keys.now c.new-rows.ensures (c.in_ok-add_filed.ensures.rows m holds);
  looks = λ m holds. c.in_ok-add_filed.ensures.at_most m holds;
}

pub each-preserved : goal.each-preserved
each-preserved g c = record {
  keys = (keys_left c.in-Some.key.now c.each.rest.now c.in-Some.later.now c.in-Some.ensures.cases.0 c.each.invariant.keys).1;
  reads = reads_on _ _ _ _ c.each.invariant.reads c.in_ok-add_next.ensures.reads;
  rows = λ m holds r.
      look_next c.args.index.now m c.as_slice.result.now c.each.rest.now c.in-Some.later.now c.each.rows c.add_next.new.rows r _
      (c.in-Some.ensures.cases.0 ∙ ap (λ (k : List ℕ). k ∷ c.in-Some.later.now) (sym c.as_slice.ensures))
      (c.in_ok-add_next.ensures.rows m (reads_hold _ _ m c.each.invariant.reads holds)) (c.each.invariant.rows m holds r);
  looks = λ m holds. nothing_then _ _ _ (c.each.invariant.looks m holds) (c.in_ok-add_next.ensures.at_most m (reads_hold _ _ m c.each.invariant.reads holds));
}

pub add_next-requires-clause-short : goal.add_next-requires-clause-short
add_next-requires-clause-short g c =
    key_fits c.as_slice.result.now (ap is_key c.as_slice.ensures ∙ (keys_left c.in-Some.key.now c.each.rest.now c.in-Some.later.now c.in-Some.ensures.cases.0 c.each.invariant.keys).0)

pub returns-clause-rows : goal.returns-clause-rows
returns-clause-rows g c = λ m holds r. look_end c.args.index.now m c.each.rows c.each.rest.now r _ (omega (arith, c.in_default.ensures.cases)) (c.each.invariant.rows m holds r)
