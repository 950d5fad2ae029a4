use Rattle.std.proofs.Common.{false, subst}
use Rattle.db_state.specs.Effects.{Checks, Effect}
use Rattle.db_select.specs.Checking.{check_parts}
use Rattle.db_select.proofs.checking.plain_fault.Goals as goal

pub returns : goal.returns
returns c = λ done.
    subst (λ (e : Effect). Checks c.first_fault.result e done) (λ i. check_parts (c.has_wrong_values-wrong_values.ensures i) false (c.has_beyond-out_of_range.ensures i) done) (c.first_fault.ensures.fault done)
