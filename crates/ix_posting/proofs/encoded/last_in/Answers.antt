use Rattle.std.proofs.Common.{length, ap, arith}
use Rattle.ix_posting.specs.laws.Wholes.{whole_rest, whole_alone}
use Rattle.ix_posting.specs.laws.Documents.{documents, row_parts}
use Rattle.ix_posting.proofs.RowSteps.{whole_row}
use Rattle.ix_posting.proofs.encoded.last_in.Goals as goal
use Rattle.ix_posting.proofs.encoded.last_in.Goals.{then-count-eq0-via-then-count-eq0, then-count-eq0-via-else-count-eq0+then-end-bytes}

pub returns-in_default-clause-none : goal.returns-in_default-clause-none
returns-in_default-clause-none g c = λ row is spelt. c.in_default.ensures.none _ _ (row_parts g.P.Place.form _ row is spelt).count

pub returns-in_default-pass_documents-clause-none : goal.returns-in_default-pass_documents-clause-none
returns-in_default-pass_documents-clause-none g c = λ row is spelt. c.in_default-pass_documents.ensures.none _ _ (whole_rest _ _ _ _ row c.in-Some.ensures.some (row_parts g.P.Place.form _ row is spelt))

pub returns-then-count-eq0-clause-none : goal.returns-then-count-eq0-clause-none
returns-then-count-eq0-clause-none g c = λ row is spelt.
    let alone = whole_alone _ _ _ (documents g.P.Place.form g.P.Place.lawful c.args.bytes.now) _ _ _ _ _ _ c.in-Some.ensures.some c.in-Some-pass_documents.ensures.some.2 (row_parts g.P.Place.form _ row is spelt) in
    elim c.then-count-eq0.branch [
      | then-count-eq0-via-then-count-eq0 w ↦ omega (arith, ap length alone.0, c.in-Some-pass_documents.ensures.some.2.many, is.some, w.if-count-eq0.true)
      | then-count-eq0-via-else-count-eq0+then-end-bytes w ↦ w.if-end-bytes.true alone.1
    ]

pub returns-clause-some : goal.returns-clause-some
returns-clause-some g c = whole_row g.P.Place.form g.P.Place.lawful c.args.bytes.now _ _ _ _ c.in-Some.ensures.some c.in-Some-pass_documents.ensures.some (omega (arith, c.if-count-eq0.false)) (omega (arith, c.if-end-bytes.false))
