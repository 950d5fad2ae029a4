use Rattle.std.proofs.Common.{◌≡◌, max, drop}
use Rattle.ix_spans.specs.Windows.{all_turned}
use Rattle.ix_spans.specs.Views.{pairs_view}
use Rattle.ix_spans.proofs.nearness.all_turned.Given as goal

abbrev pub invariant-loop-pairs : goal.invariant-loop-pairs
invariant-loop-pairs l = max l.most (all_turned (pairs_view (drop l.pairs-index l.operands))) ≡ all_turned (pairs_view l.operands)
