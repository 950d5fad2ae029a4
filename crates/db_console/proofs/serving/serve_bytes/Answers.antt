use Rattle.std.proofs.lemmas.Result.{err_from_is_err_and}
use Rattle.db_console.proofs.ViewLaws.{serves_none, serves_more, serves_all, breaks_at}
use Rattle.db_console.proofs.serving.serve_bytes.Goals as goal

pub loop-byte-init : goal.loop-byte-init
loop-byte-init g c = serves_none _ c.args.cutter.now c.requires.ready

pub loop-byte-preserved : goal.loop-byte-preserved
loop-byte-preserved g c = serves_more _ _ _ _ _ _ _ _ c.loop-byte-test.true c.loop-byte.invariant c.in_ok-serve_byte.ensures.served

pub returns-in_err-serve_byte-clause-broke : goal.returns-in_err-serve_byte-clause-broke
returns-in_err-serve_byte-clause-broke g c = let p = err_from_is_err_and c.from_residual.result c.from_residual.ensures.1 in rw (p.1, p.2)
    (breaks_at _ _ _ _ _ _ _ _ c.loop-byte-test.true c.loop-byte.invariant c.in_err-serve_byte.ensures.broke)

pub returns-clause-served : goal.returns-clause-served
returns-clause-served g c = serves_all _ _ _ _ _ _ c.loop-byte-test.false c.loop-byte.invariant
