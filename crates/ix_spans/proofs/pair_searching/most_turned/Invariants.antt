use Rattle.std.proofs.Common.{◌≡◌, max, drop}
use Rattle.ix_spans.specs.Windows.{most_turned}
use Rattle.ix_spans.proofs.pair_searching.most_turned.Given as goal

abbrev pub invariant-loop-pair : goal.invariant-loop-pair
invariant-loop-pair l = max l.most (most_turned (drop l.pair-index l.pairs)) ≡ most_turned l.pairs
