use Rattle.std.proofs.Common.{◌+◌, ◌-◌, arith}
use Rattle.std.proofs.lemmas.Result.{err_from_is_err_and}
use Rattle.ix_posting.specs.laws.Items.{read_more, read_all, none_more}
use Rattle.ix_posting.specs.laws.Documents.{documents}
use Rattle.ix_posting.proofs.reading.read_documents.Goals as goal

pub returns-in_err-document-clause-bad : goal.returns-in_err-document-clause-bad
returns-in_err-document-clause-bad g c = λ bad.
    let fault = err_from_is_err_and c.from_residual.result c.from_residual.ensures.1 in
    none_more _ _ _ (documents g.P.Place.form g.P.Place.lawful c.args.bytes.now) _ _ _ _ _ _ _ (c.args.count - (c.loop.counter + 1)) c.loop.invariant (omega arith) (c.in_err-document.ensures.bad (cc (fault.1, fault.2)))

pub loop-preserved : goal.loop-preserved
loop-preserved g c =
    rw c.in_ok-push.ensures.items (read_more _ _ _ (documents g.P.Place.form g.P.Place.lawful c.args.bytes.now) _ _ _ _ _ _ _ _ _ _ c.loop.invariant (omega arith) c.in_ok-document.ensures.ok)

pub returns-clause-ok : goal.returns-clause-ok
returns-clause-ok g c = read_all _ _ _ (documents g.P.Place.form g.P.Place.lawful c.args.bytes.now) _ _ _ _ _ _ _ c.loop.invariant (omega arith)
