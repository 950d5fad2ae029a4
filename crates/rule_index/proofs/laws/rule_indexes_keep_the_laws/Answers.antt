use Rattle.rule_index.specs.laws.Kind.{rules_laws}
use Rattle.rule_index.proofs.laws.rule_indexes_keep_the_laws.Goals as goal

pub returns : goal.returns
returns c = rules_laws
