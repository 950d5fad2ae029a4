use Rattle.std.proofs.Common.{length}
use Rattle.ix_cursor.specs.Alone.{AreDocumentEntries}
use Rattle.ix_cursor.proofs.LoneDocument.{TokensSoFar}
use Rattle.ix_cursor.proofs.alone.tokens_of_entries.Given as goal

abbrev pub invariant-loop-rest : goal.invariant-loop-rest
invariant-loop-rest l = record {
  are : AreDocumentEntries l.rest;
  so_far : TokensSoFar l.stream l.slot l.entries l.rest l.tokens.items;
}

abbrev pub decreases-loop-rest : goal.decreases-loop-rest
decreases-loop-rest l = length l.rest
