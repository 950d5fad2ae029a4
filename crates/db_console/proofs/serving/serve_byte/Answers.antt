use Rattle.std.proofs.Common.{◌∷◌, [], sym, ◌∙◌}
use Rattle.std.proofs.lemmas.Result.{err_from_is_err_and}
use Rattle.db_console.proofs.ViewLaws.{serves_statement, breaks_statement, serves_push}
use Rattle.db_console.proofs.serving.serve_byte.Goals as goal

pub returns-in_err-answer-clause-broke : goal.returns-in_err-answer-clause-broke
returns-in_err-answer-clause-broke g c = let p = err_from_is_err_and c.from_residual.result c.from_residual.ensures.1 in rw (p.1, p.2, c.if-byte-eq10.true)
    (breaks_statement _ _ c.args.cutter.now c.statement.result (sym c.is_ending.ensures ∙ c.if-is_ending.true) c.statement.ensures _ c.in_err-answer.ensures.part)

pub returns-in_ok-answer-clause-served : goal.returns-in_ok-answer-clause-served
returns-in_ok-answer-clause-served g c = rw c.if-byte-eq10.true
    (serves_statement _ _ c.args.cutter.now c.statement.result (sym c.is_ending.ensures ∙ c.if-is_ending.true) c.statement.ensures c.clear.new.self c.in_ok-answer.ensures.all c.clear.ensures)

pub returns-else-byte-eq10-clause-served : goal.returns-else-byte-eq10-clause-served
returns-else-byte-eq10-clause-served g c = serves_push _ (c.args.byte ∷ []) c.args.cutter.now c.push.new.self c.requires.ready c.push.ensures
