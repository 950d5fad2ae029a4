use Rattle.std.proofs.Common.{◌≡◌, drop}
use Rattle.ix_spans.specs.Windows.{opening}
use Rattle.ix_spans.specs.Views.{pairs_view}
use Rattle.ix_spans.proofs.nearness.opening.Given as goal

abbrev pub invariant-loop-pairs : goal.invariant-loop-pairs
invariant-loop-pairs l = opening l.span l.start (pairs_view (drop l.pairs-index l.operands)) ≡ opening l.span l.from (pairs_view l.operands)
