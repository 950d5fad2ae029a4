use Rattle.std.proofs.Common.{◌+◌, ◌-◌, arith}
use Rattle.ix_posting.proofs.PassSteps.{documents_none, documents_more, documents_all, no_documents}
use Rattle.ix_posting.proofs.passing.pass_documents.Goals as goal

pub loop-init : goal.loop-init
loop-init g c = documents_none g.P.Place.form g.P.Place.lawful c.args.bytes.now c.args.at c.args.count _ (omega arith)

pub returns-in_default-clause-none : goal.returns-in_default-clause-none
returns-in_default-clause-none g c = no_documents g.P.Place.form g.P.Place.lawful c.args.bytes.now _ _ _ _ _ (c.args.count - (c.loop.counter + 1)) c.loop.invariant (omega arith) c.in_default.ensures.none

pub loop-preserved : goal.loop-preserved
loop-preserved g c = documents_more g.P.Place.form g.P.Place.lawful c.args.bytes.now _ _ _ _ _ _ _ _ c.loop.invariant (omega arith) c.in-Some.ensures.some

pub returns-clause-some : goal.returns-clause-some
returns-clause-some g c = documents_all g.P.Place.form g.P.Place.lawful c.args.bytes.now _ _ _ _ _ c.loop.invariant (omega arith)
