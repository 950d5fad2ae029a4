use Rattle.db_state.specs.laws.Serving.{serves_err, serves_then, plan_then}
use Rattle.db_change.proofs.inserting.insert_into.Goals as goal

pub returns-in-Ok : goal.returns-in-Ok
returns-in-Ok g c = serves_then _ _ _ _ _ _ c.in-Ok.ensures.reads (c.carry_out.ensures.done _ (plan_then _ _ _ _ _ c.in-Ok.ensures.reads c.in-Ok.ensures.plan))

pub returns-in-Err : goal.returns-in-Err
returns-in-Err g c = serves_err _ _ _ _ _ c.in-Err.ensures.reads
