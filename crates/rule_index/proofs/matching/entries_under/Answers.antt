use Rattle.rule_index.specs.laws.Looks.{anchors_count_nothing}
use Rattle.rule_index.proofs.matching.entries_under.Goals as goal

pub returns-clause-at_most : goal.returns-clause-at_most
returns-clause-at_most g c = λ m holds. anchors_count_nothing c.args.index.now c.args.prefix.now m _ _ (c.entries_of.ensures.at_most m holds)
