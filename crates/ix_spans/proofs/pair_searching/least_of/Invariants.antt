use Rattle.std.proofs.Common.{◌≡◌, drop}
use Rattle.ix_spans.specs.Windows.{least_of}
use Rattle.ix_spans.proofs.pair_searching.least_of.Given as goal

abbrev pub invariant-loop-pair : goal.invariant-loop-pair
invariant-loop-pair l = least_of l.least (drop l.pair-index l.pairs) ≡ least_of l.end l.pairs
