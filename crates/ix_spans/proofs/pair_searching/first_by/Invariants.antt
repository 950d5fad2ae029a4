use Rattle.std.proofs.Common.{◌≡◌, drop}
use Rattle.ix_spans.specs.Windows.{first_by}
use Rattle.ix_spans.proofs.pair_searching.first_by.Given as goal

abbrev pub invariant-loop-pair : goal.invariant-loop-pair
invariant-loop-pair l = first_by l.end (drop l.pair-index l.pairs) ≡ first_by l.end l.pairs
