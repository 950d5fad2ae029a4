use Rattle.std.proofs.Common.{drop}
use Rattle.tx_document.proofs.TokenMarks.{IsReached}
use Rattle.tx_document.proofs.ranges.marks.Given as goal

abbrev pub invariant-loop-span : goal.invariant-loop-span
invariant-loop-span l = IsReached l.spans (drop l.span-index l.spans) l.reach.items l.tokens
