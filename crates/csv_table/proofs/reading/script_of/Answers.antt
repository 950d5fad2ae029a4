use Rattle.std.proofs.Common.{inl, inr}
use Rattle.std.proofs.lemmas.Result.{err_from_is_err_and}
use Rattle.csv_table.proofs.reading.script_of.Goals as goal

pub returns-clause-script : goal.returns-clause-script
returns-clause-script c = (c.in_ok-table.table, c.in_ok-table.ensures.table, c.in_ok-script.ensures.script)

pub returns-in_err-table-clause-cause : goal.returns-in_err-table-clause-cause
returns-in_err-table-clause-cause c = let p = err_from_is_err_and c.from_residual.result c.from_residual.ensures.1 in rw (p.1, p.2) (inl c.in_err-table.ensures.cause)

pub returns-in_err-script-clause-cause : goal.returns-in_err-script-clause-cause
returns-in_err-script-clause-cause c = let p = err_from_is_err_and c.from_residual-in_err-script.result c.from_residual-in_err-script.ensures.1 in rw (p.1, p.2)
    (inr (c.in_ok-table.table, c.in_ok-table.ensures.table, c.in_err-script.ensures.cause))
