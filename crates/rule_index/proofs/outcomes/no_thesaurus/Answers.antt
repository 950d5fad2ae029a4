use Rattle.std.proofs.Common.{codes, ◌∙◌}
use Rattle.rule_index.proofs.OutcomeSteps.{with_none}
use Rattle.rule_index.proofs.outcomes.no_thesaurus.Goals as goal

pub returns : goal.returns
returns c = c.keep_fault.ensures _ (c.in_ok-named.ensures ∙ with_none (codes "E25: unknown thesaurus ") c.args.name.now)
