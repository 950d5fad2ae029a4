use Rattle.std.proofs.lemmas.Result.{err_from_is_err_and}
use Rattle.csv_table.proofs.FaultSteps.{no_column_key, no_name_key}
use Rattle.csv_table.proofs.names.key_place.Goals as goal

pub returns-in_err-name-clause-cause : goal.returns-in_err-name-clause-cause
returns-in_err-name-clause-cause c = let p = err_from_is_err_and c.from_residual.result c.from_residual.ensures.1 in rw (p.1, p.2)
    tt

pub returns-in_default-2-clause-cause : goal.returns-in_default-2-clause-cause
returns-in_default-2-clause-cause c = rw c.in-Some.is (no_name_key c.in-Some.key.now c.args.names.now (rw c.in_default-2.is at c.in_ok-name.ensures.told))

pub returns-in_default-place_of_name-clause-cause : goal.returns-in_default-place_of_name-clause-cause
returns-in_default-place_of_name-clause-cause c =
    rw c.in-Some.is (no_column_key c.in-Some.key.now c.in-Some-2.name c.args.names.now (rw c.in-Some-2.is at c.in_ok-name.ensures.name)
    (rw c.in_default-place_of_name.is at c.place_of_name.ensures.told))
