use Rattle.std.proofs.Common.{◌≡◌, length}
use Rattle.q_tree.specs.Documents.{entry_pairs}
use Rattle.ix_cursor.specs.Alone.{AreDocumentEntries, doc_entries}
use Rattle.ix_cursor.proofs.alone.section_of_entries.Given as goal

abbrev pub invariant-loop-rest : goal.invariant-loop-rest
invariant-loop-rest l = record {
  are : AreDocumentEntries l.rest;
  same : entry_pairs l.name (doc_entries l.rest) ≡ entry_pairs l.name (doc_entries l.entries);
}

abbrev pub decreases-loop-rest : goal.decreases-loop-rest
decreases-loop-rest l = length l.rest
