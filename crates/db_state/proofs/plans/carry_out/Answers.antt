use Rattle.std.proofs.Common.{subst}
use Rattle.std.proofs.lemmas.Result.{err_from_is_err_and}
use Rattle.ct_keep.specs.laws.Composing.{reads_none}
use Rattle.db_cond.specs.Refused.{refusal_of}
use Rattle.db_state.specs.Plans.{IsPlanOf}
use Rattle.db_state.specs.laws.Serving.{serves_short, serves_refused}
use Rattle.db_state.proofs.plans.carry_out.Goals as goal

pub returns-in_err-fault_line-in-Refused-clause-done : goal.returns-in_err-fault_line-in-Refused-clause-done
returns-in_err-fault_line-in-Refused-clause-done g c = λ effect fits. serves_short _ _ _ _ _ (reads_none _ c.requires.accepts.ready) (err_from_is_err_and _ c.from_residual.ensures.1)

pub returns-in_ok-fault_line-in-Refused-clause-done : goal.returns-in_ok-fault_line-in-Refused-clause-done
returns-in_ok-fault_line-in-Refused-clause-done g c = λ effect fits.
    serves_refused _ _ _ _ (refusal_of c.in-Refused.fault) _ (reads_none _ c.requires.accepts.ready) (subst (IsPlanOf effect _ _) c.in-Refused.is fits).made c.in_ok-fault_line-in-Refused.ensures

pub returns-in-Done-clause-done : goal.returns-in-Done-clause-done
returns-in-Done-clause-done g c = λ effect fits. c.commit_batch.ensures.done effect (subst (IsPlanOf effect _ _) c.in-Done.is fits)
