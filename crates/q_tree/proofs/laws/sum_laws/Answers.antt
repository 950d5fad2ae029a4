use Rattle.q_tree.specs.laws.PostfixSums.{postfix_counts, postfix_value, is_postfix}
use Rattle.q_tree.proofs.laws.sum_laws.Goals as goal

pub returns-clause-one : goal.returns-clause-one
returns-clause-one c = postfix_counts

pub returns-clause-value : goal.returns-clause-value
returns-clause-value c = postfix_value

pub returns-clause-sums : goal.returns-clause-sums
returns-clause-sums c = is_postfix
