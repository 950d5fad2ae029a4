use Rattle.std.proofs.Common.{◌≡◌, ◌+◌, ◌∷◌, List, drop, sym, ap, ◌∙◌}
use Rattle.ct_keep.specs.laws.Composing.{reads_on, reads_hold}
use Rattle.ct_base.specs.laws.Lists.{drop_next}
use Rattle.q_tree.specs.declared.flats.PatternBit.{PatternBit}
use Rattle.ix_tokens.specs.Looking.{pattern_looks}
use Rattle.ix_tokens.specs.laws.Looks.{looks_end}
use Rattle.ix_search.specs.Looking.{patterns_looks}
use Rattle.ix_search.proofs.ReadSteps.{patterns_on, patterns_end, no_item, more_rise}
use Rattle.ix_search.proofs.LookSteps.{looks_on}
use Rattle.ix_search.proofs.reading.read_patterns.Goals as goal

pub loop-pattern-preserved : goal.loop-pattern-preserved
loop-pattern-preserved g c =
    let k = c.loop-pattern.pattern-index in
    let patterns = c.args.patterns.now in
    let p = c.as_slice.result.now in
    let next : drop k patterns ≡ p ∷ drop (k + 1) patterns = drop_next patterns k c.pattern-item.result c.loop-pattern-test.true c.pattern-item.is ∙ ap (λ (q : List PatternBit). q ∷ drop (k + 1) patterns) (sym c.as_slice.ensures) in
    record {
      reads = reads_on _ _ _ _ c.loop-pattern.invariant.reads c.in_ok-found.ensures.reads;
      looks = λ m told. looks_on (patterns_looks m c.args.index.now c.args.stream (drop k patterns)) (pattern_looks m c.args.index.now c.args.stream p) (patterns_looks m c.args.index.now c.args.stream (drop (k + 1) patterns)) (patterns_looks m c.args.index.now c.args.stream patterns) _ _ _ (c.loop-pattern.invariant.looks m told) (ap (patterns_looks m c.args.index.now c.args.stream) next) (c.in_ok-found.ensures.at_most m (reads_hold _ _ m c.loop-pattern.invariant.reads told));
      rise = more_rise _ _ _ c.loop-pattern.invariant.rise c.in_ok-found.ensures.rise c.in_ok-put_all.ensures;
      rows = λ m held told holds.
          patterns_on held c.args.stream patterns (drop k patterns) (drop (k + 1) patterns) p c.loop-pattern.tokens.items c.in_ok-found.found.items c.put_all.new.tokens.items (c.loop-pattern.invariant.rows m held told holds) next
          (c.in_ok-found.ensures.rows m (reads_hold _ _ m c.loop-pattern.invariant.reads told) held holds) c.in_ok-put_all.ensures;
    }

pub returns-clause-rows : goal.returns-clause-rows
returns-clause-rows g c = λ m told held holds.
    patterns_end held c.args.stream c.args.patterns.now _ _ (c.loop-pattern.invariant.rows m held told holds) (no_item c.args.patterns.now c.loop-pattern.pattern-index c.loop-pattern-test.false)

pub returns-clause-at_most : goal.returns-clause-at_most
returns-clause-at_most g c = λ m told. looks_end _ (patterns_looks m c.args.index.now c.args.stream c.args.patterns.now) _ _ (c.loop-pattern.invariant.looks m told)
