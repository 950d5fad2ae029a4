use Rattle.std.proofs.Common.{length, ap, arith}
use Rattle.std.proofs.lemmas.Result.{err_from_is_err_and}
use Rattle.ix_posting.specs.laws.Wholes.{whole_rest, whole_alone}
use Rattle.ix_posting.specs.laws.Documents.{documents, row_parts}
use Rattle.ix_posting.proofs.rows.Row.decode.Goals as goal
use Rattle.ix_posting.proofs.rows.Row.decode.Goals.{then-count-eq0-via-then-count-eq0, then-count-eq0-via-else-count-eq0+then-end-bytes}

pub returns-in_default-clause-bad : goal.returns-in_default-clause-bad
returns-in_default-clause-bad g c = λ bad row is spelt. c.in_default.ensures.none _ _ (row_parts g.P.Place.form _ row is spelt).count

pub returns-in_err-documents-clause-bad : goal.returns-in_err-documents-clause-bad
returns-in_err-documents-clause-bad g c = λ bad row is spelt.
    let fault = err_from_is_err_and c.from_residual.result c.from_residual.ensures.1 in
    c.in_err-documents.ensures.bad (cc (fault.1, fault.2)) _ _ (whole_rest _ _ _ _ row c.in-Some.ensures.some (row_parts g.P.Place.form _ row is spelt))

pub returns-then-count-eq0-clause-bad : goal.returns-then-count-eq0-clause-bad
returns-then-count-eq0-clause-bad g c = λ bad row is spelt.
    let alone = whole_alone _ _ _ (documents g.P.Place.form g.P.Place.lawful c.args.bytes.now) _ _ _ _ _ _ c.in-Some.ensures.some c.in_ok-documents.ensures.ok (row_parts g.P.Place.form _ row is spelt) in
    elim c.then-count-eq0.branch [
      | then-count-eq0-via-then-count-eq0 w ↦ omega (arith, ap length alone.0, c.in_ok-documents.ensures.ok.many, is.some, w.if-count-eq0.true)
      | then-count-eq0-via-else-count-eq0+then-end-bytes w ↦ w.if-end-bytes.true alone.1
    ]

pub returns-clause-read_back : goal.returns-clause-read_back
returns-clause-read_back g c = λ row is spelt. (whole_alone _ _ _ (documents g.P.Place.form g.P.Place.lawful c.args.bytes.now) _ _ _ _ _ _ c.in-Some.ensures.some c.in_ok-documents.ensures.ok (row_parts g.P.Place.form _ row is spelt)).0
