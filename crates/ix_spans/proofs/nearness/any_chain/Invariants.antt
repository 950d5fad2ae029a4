use Rattle.std.proofs.Common.{◌≡◌, drop}
use Rattle.std.specs.List.{list_any}
use Rattle.ix_spans.specs.Windows.{opens_chain}
use Rattle.ix_spans.specs.Views.{pairs_view}
use Rattle.ix_spans.proofs.nearness.any_chain.Given as goal

abbrev pub invariant-loop-pair : goal.invariant-loop-pair
invariant-loop-pair l = list_any (opens_chain (pairs_view l.others) l.span) (drop l.pair-index l.pairs) ≡ list_any (opens_chain (pairs_view l.others) l.span) l.pairs
