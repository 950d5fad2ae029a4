use Rattle.std.proofs.Common.{List, ◌++◌, length}
use Rattle.ix_posting.specs.Rows.{DocumentsRise, WordDocument}
use Rattle.ix_posting.specs.Forms.{number_form}
use Rattle.index_tests.proofs.cursors.last_behind.Given as goal

abbrev pub invariant-loop-rest : goal.invariant-loop-rest
invariant-loop-rest l = record {
  rise : DocumentsRise number_form 0 l.rest;
  whole : (more : List WordDocument) → DocumentsRise number_form l.last (l.rest ++ more) → DocumentsRise number_form l.before (l.documents ++ more);
}

abbrev pub decreases-loop-rest : goal.decreases-loop-rest
decreases-loop-rest l = length l.rest
