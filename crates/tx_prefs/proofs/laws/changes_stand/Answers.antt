use Rattle.tx_prefs.specs.laws.Changes.{lexer_stands, stoplist_stands, group_stands, set_stands, preferences_frame}
use Rattle.tx_prefs.proofs.laws.changes_stand.Goals as goal

pub returns-clause-lexers : goal.returns-clause-lexers
returns-clause-lexers c = lexer_stands

pub returns-clause-stoplists : goal.returns-clause-stoplists
returns-clause-stoplists c = stoplist_stands

pub returns-clause-groups : goal.returns-clause-groups
returns-clause-groups c = group_stands

pub returns-clause-sets : goal.returns-clause-sets
returns-clause-sets c = set_stands

pub returns-clause-others : goal.returns-clause-others
returns-clause-others c = preferences_frame
