use Rattle.rule_index.proofs.outcomes.faulty.Goals as goal

pub returns : goal.returns
returns c = c.keep_fault.ensures _ c.in_ok-copy.ensures
