use Rattle.std.proofs.Common.{ℕ, ◌≡◌, Some, None, arith, sym, ap, ◌∙◌}
use Rattle.ix_spans.specs.Views.{pairs_view}
use Rattle.ix_spans.specs.Windows.{opening}
use Rattle.ix_spans.proofs.Windowing.{opening_rises, stand_on, stand_nowhere, stand_here}
use Rattle.ix_spans.proofs.nearness.windowed.Goals as goal

pub returns-then-start-from : goal.returns-then-start-from
returns-then-start-from c =
    let there : opening c.args.span c.loop-start.from (pairs_view c.args.operands.now) ≡ Some c.in-Some.start = sym c.opening.ensures ∙ c.in-Some.is in
    sym (stand_here (pairs_view c.args.operands.now) c.args.span c.loop-start.from (there ∙ ap (λ (n : ℕ). Some n) c.if-start-from.true))

pub loop-start-smaller : goal.loop-start-smaller
loop-start-smaller c =
    let there : opening c.args.span c.loop-start.from (pairs_view c.args.operands.now) ≡ Some c.in-Some.start = sym c.opening.ensures ∙ c.in-Some.is in
    let rises = opening_rises c.args.span c.loop-start.from (pairs_view c.args.operands.now) c.in-Some.start there in
    omega (arith, rises)

pub loop-start-preserved : goal.loop-start-preserved
loop-start-preserved c =
    let there : opening c.args.span c.loop-start.from (pairs_view c.args.operands.now) ≡ Some c.in-Some.start = sym c.opening.ensures ∙ c.in-Some.is in
    stand_on (pairs_view c.args.operands.now) c.args.span c.loop-start.from c.in-Some.start c.loop-start.invariant there

pub returns : goal.returns
returns c =
    let none : opening c.args.span c.loop-start.from (pairs_view c.args.operands.now) ≡ None = sym c.opening.ensures ∙ c.in_default.is in
    sym (stand_nowhere (pairs_view c.args.operands.now) c.args.span c.loop-start.from c.loop-start.invariant none)
