use Rattle.tx_prefs.specs.laws.Values.{one_preferences, lexer_value, stoplist_value, group_value, set_value}
use Rattle.tx_prefs.proofs.laws.entries_are_exact.Goals as goal

pub returns-clause-one : goal.returns-clause-one
returns-clause-one c = one_preferences

pub returns-clause-lexers : goal.returns-clause-lexers
returns-clause-lexers c = lexer_value

pub returns-clause-stoplists : goal.returns-clause-stoplists
returns-clause-stoplists c = stoplist_value

pub returns-clause-groups : goal.returns-clause-groups
returns-clause-groups c = group_value

pub returns-clause-sets : goal.returns-clause-sets
returns-clause-sets c = set_value
