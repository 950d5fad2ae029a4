use Rattle.std.proofs.Common.{◌≡◌, ◌++◌, length}
use Rattle.ix_posting.specs.Rows.{DocumentsRise, documents_bytes}
use Rattle.ix_posting.proofs.writing.put_documents.Given as goal

abbrev pub invariant-loop-rest : goal.invariant-loop-rest
invariant-loop-rest g l = record {
  written : l.out.items ++ documents_bytes g.P.Place.form l.last l.rest ≡ l.fn.out.items ++ documents_bytes g.P.Place.form 0 l.documents;
  rise : DocumentsRise g.P.Place.form l.last l.rest;
}

abbrev pub decreases-loop-rest : goal.decreases-loop-rest
decreases-loop-rest g l = length l.rest
