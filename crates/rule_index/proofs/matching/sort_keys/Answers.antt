use Rattle.rule_index.proofs.matching.sort_keys.Goals as goal

pub returns : goal.returns
returns c = c.sort_unstable_by.ensures.permutation
