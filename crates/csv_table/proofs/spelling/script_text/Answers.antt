use Rattle.std.proofs.Common.{◌∙◌, inl, inr}
use Rattle.std.proofs.lemmas.Result.{err_from_is_err_and}
use Rattle.csv_table.specs.Spelling.{create_text}
use Rattle.csv_table.proofs.FaultSteps.{long_of}
use Rattle.csv_table.proofs.spelling.script_text.Goals as goal

pub returns-in_err-statement-clause-cause : goal.returns-in_err-statement-clause-cause
returns-in_err-statement-clause-cause c = let p = err_from_is_err_and c.from_residual.result c.from_residual.ensures.1 in rw (p.1, p.2)
    (inl tt)

pub returns-in_err-push_statement-clause-cause : goal.returns-in_err-push_statement-clause-cause
returns-in_err-push_statement-clause-cause c = let p = err_from_is_err_and c.from_residual-in_err-push_statement.result c.from_residual-in_err-push_statement.ensures.1 in rw (p.1, p.2)
    (inl (long_of 1 (create_text c.args.table.now) c.as_slice.result.now _ (c.as_slice.ensures.value ∙ c.in_ok-statement.ensures) c.in_err-push_statement.ensures.cause))

pub returns-in_err-push_inserts-clause-cause : goal.returns-in_err-push_inserts-clause-cause
returns-in_err-push_inserts-clause-cause c = let p = err_from_is_err_and c.from_residual-in_err-push_inserts.result c.from_residual-in_err-push_inserts.ensures.1 in rw (p.1, p.2)
    (inr (rw (c.as_slice-columns.ensures, c.as_slice-rows.ensures) at c.in_err-push_inserts.ensures.cause))
