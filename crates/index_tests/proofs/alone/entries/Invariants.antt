use Rattle.ix_cursor.specs.Alone.{AreDocumentEntries}
use Rattle.index_tests.proofs.alone.entries.Given as goal

abbrev pub invariant-loop-stream : goal.invariant-loop-stream
invariant-loop-stream l = AreDocumentEntries l.entries.items
