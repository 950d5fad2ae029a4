use Rattle.std.proofs.lemmas.Result.{err_from_is_err_and}
use Rattle.ct_keep.specs.laws.Composing.{reads_none}
use Rattle.db_state.specs.laws.Serving.{serves_err, serves_short, serves_then, plan_then}
use Rattle.db_index.proofs.optimizing.optimize_index.Goals as goal

pub returns-in_err-name : goal.returns-in_err-name
returns-in_err-name g c = serves_short _ _ _ _ _ (reads_none _ c.requires.ready) (err_from_is_err_and _ c.from_residual.ensures.1)

pub returns-in-Ok : goal.returns-in-Ok
returns-in-Ok g c = serves_then _ _ _ _ _ _ c.in-Ok.ensures.reads (c.carry_out.ensures.done _ (plan_then _ _ _ _ _ c.in-Ok.ensures.reads c.in-Ok.ensures.plan))

pub returns : goal.returns
returns g c = serves_err _ _ _ _ _ c.in-Err.ensures.reads
