use Rattle.ct_keep.specs.laws.Composing.{reads_hold}
use Rattle.db_state.specs.laws.Serving.{removal_light, serves_err, serves_then, plan_then}
use Rattle.db_index.proofs.dropping.drop_index.Goals as goal

pub returns-in-Ok-clause-done : goal.returns-in-Ok-clause-done
returns-in-Ok-clause-done g c = serves_then _ _ _ _ _ _ c.in-Ok.ensures.reads (c.carry_out.ensures.done _ (plan_then _ _ _ _ _ c.in-Ok.ensures.reads c.in-Ok.ensures.plan))

pub returns-in-Ok-clause-never_full : goal.returns-in-Ok-clause-never_full
returns-in-Ok-clause-never_full g c = λ m holds. c.carry_out.ensures.light m (reads_hold _ _ m c.in-Ok.ensures.reads holds) (removal_light m c.in-Ok.plan c.in-Ok.ensures.light)

pub returns-in-Err-clause-done : goal.returns-in-Err-clause-done
returns-in-Err-clause-done g c = serves_err _ _ _ _ _ c.in-Err.ensures.reads
