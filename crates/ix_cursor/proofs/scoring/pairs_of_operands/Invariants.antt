use Rattle.std.proofs.Common.{take, map}
use Rattle.ix_spans.specs.InOrder.{EachInOrder, EachSame}
use Rattle.ix_spans.specs.Occurrences.{term_pairs}
use Rattle.ix_spans.specs.Views.{pairs_view}
use Rattle.ix_cursor.specs.Seen.{seen_operands}
use Rattle.ix_cursor.proofs.scoring.pairs_of_operands.Given as goal

abbrev pub invariant-loop-operand : goal.invariant-loop-operand
invariant-loop-operand l = record {
  order : EachInOrder (pairs_view l.out.items);
  same : EachSame (pairs_view l.out.items) (map (λ o. term_pairs o l.lo l.hi) (seen_operands (take l.operand-index l.operands)));
}
