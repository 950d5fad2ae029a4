use Rattle.ix_spans.specs.InOrder.{EachInOrder}
use Rattle.ix_spans.specs.Views.{pairs_view}
use Rattle.index_tests.proofs.occurrences.operands.Given as goal

abbrev pub invariant-loop-row : goal.invariant-loop-row
invariant-loop-row l = EachInOrder (pairs_view l.all.items)
