use Rattle.std.proofs.Common.{◌≡◌, drop}
use Rattle.ix_spans.specs.Windows.{chains}
use Rattle.ix_spans.specs.Views.{pairs_view}
use Rattle.ix_spans.proofs.nearness.chains.Given as goal

abbrev pub invariant-loop-pairs : goal.invariant-loop-pairs
invariant-loop-pairs l = chains (pairs_view (drop l.pairs-index l.operands)) l.last l.end ≡ chains (pairs_view l.operands) l.before l.end
