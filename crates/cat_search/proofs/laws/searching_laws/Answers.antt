use Rattle.cat_search.specs.laws.Slots.{words_rule_out, words_tell}
use Rattle.cat_search.proofs.laws.searching_laws.Goals as goal

pub returns-clause-out : goal.returns-clause-out
returns-clause-out c = words_rule_out

pub returns-clause-told : goal.returns-clause-told
returns-clause-told c = words_tell
