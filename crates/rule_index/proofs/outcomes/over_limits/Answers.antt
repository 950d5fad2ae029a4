use Rattle.rule_index.proofs.OutcomeSteps.{limit_kept}
use Rattle.rule_index.proofs.outcomes.over_limits.Goals as goal

pub returns : goal.returns
returns c = limit_kept c.in_ok-text.text c.in_ok-text.ensures
