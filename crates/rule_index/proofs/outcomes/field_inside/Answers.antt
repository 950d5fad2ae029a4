use Rattle.rule_index.proofs.outcomes.field_inside.Goals as goal

pub returns : goal.returns
returns c = c.keep_fault.ensures _ c.in_ok-named.ensures
