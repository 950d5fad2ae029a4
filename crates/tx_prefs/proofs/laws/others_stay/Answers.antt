use Rattle.tx_prefs.proofs.OtherParts.{last_value, tags_join, kinds_stay}
use Rattle.tx_prefs.proofs.laws.others_stay.Goals as goal

pub returns-clause-values : goal.returns-clause-values
returns-clause-values c = last_value

pub returns-clause-tags : goal.returns-clause-tags
returns-clause-tags c = tags_join

pub returns-clause-kinds : goal.returns-clause-kinds
returns-clause-kinds c = kinds_stay
