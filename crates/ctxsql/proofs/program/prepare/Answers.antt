use Rattle.ctxsql.proofs.program.prepare.Goals as goal

pub returns-in-Ok-file_of-clause-none : goal.returns-in-Ok-file_of-clause-none
returns-in-Ok-file_of-clause-none c = rw (c.deref-in-Ok-file_of.ensures.value, ← c.deref.ensures.value) c.in-Ok-file_of.ensures.none
