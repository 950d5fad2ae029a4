use Rattle.std.proofs.Common.{length, ◌<◌, sym, ap, subst, ◌∙◌, arith}
use Rattle.ix_lists.specs.Documents.{from_on}
use Rattle.ix_lists.proofs.Passing.{stays, passes, shorter, some_first}
use Rattle.ix_lists.proofs.postings.seek_in_row.Goals as goal

pub returns-then-document-to-clause-left : goal.returns-then-document-to-clause-left
returns-then-document-to-clause-left g c = sym (stays c.args.to c.document-document.result c.documents.here c.document-document.ensures c.if-document-to.true) ∙ c.documents.invariant

pub returns-then-document-to-clause-some : goal.returns-then-document-to-clause-some
returns-then-document-to-clause-some g c = some_first c.document-document.result c.documents.here c.document-document.ensures

pub returns-in_default-clause-left : goal.returns-in_default-clause-left
returns-in_default-clause-left g c =
    sym (ap (from_on c.args.to) c.in_default.ensures.none) ∙ sym (passes c.args.to c.document-document.result c.documents.here c.document-document.ensures (omega (arith, c.if-document-to.false))) ∙ c.documents.invariant

pub documents-preserved : goal.documents-preserved
documents-preserved g c =
    ap (from_on c.args.to) c.in-Some.ensures.some ∙ sym (passes c.args.to c.document-document.result c.documents.here c.document-document.ensures (omega (arith, c.if-document-to.false))) ∙ c.documents.invariant

pub documents-smaller : goal.documents-smaller
documents-smaller g c = subst (λ ds. length ds < length c.documents.here) (sym c.in-Some.ensures.some) (shorter c.document-document.result c.documents.here c.document-document.ensures)
