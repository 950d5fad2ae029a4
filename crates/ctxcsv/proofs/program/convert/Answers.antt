use Rattle.std.proofs.lemmas.Result.{err_from_is_err_and}
use Rattle.ctxcsv.specs.Arguments.{asks}
use Rattle.ctxcsv.proofs.Converting.{refused}
use Rattle.ctxcsv.proofs.program.convert.Goals as goal

pub returns-in_err-script-clause-cause : goal.returns-in_err-script-clause-cause
returns-in_err-script-clause-cause g c = let p = err_from_is_err_and c.from_residual-in_err-script.result c.from_residual-in_err-script.ensures.1 in rw (p.1, p.2)
    (refused (g.I.Read.remaining c.args.input.now) (asks c.args.asked) c.in_ok-text.text.items _ c.in_ok-text.ensures.text (rw c.as_slice.ensures.value at c.in_err-script.ensures.cause))
