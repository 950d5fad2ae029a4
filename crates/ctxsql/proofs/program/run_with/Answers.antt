use Rattle.ctxsql.proofs.program.run_with.Goals as goal

pub returns-in-Ok-clause-form : goal.returns-in-Ok-clause-form
returns-in-Ok-clause-form g c = rw c.in-Ok.is c.run.ensures.form
