use Rattle.tx_settings.specs.laws.Lengths.{groups_are_short, prefs_are_short, settings_are_short, values_are_short, words_are_short}
use Rattle.tx_settings.proofs.prefs_laws.spellings_are_short.Goals as goal

pub returns-clause-values : goal.returns-clause-values
returns-clause-values c = values_are_short

pub returns-clause-settings : goal.returns-clause-settings
returns-clause-settings c = settings_are_short

pub returns-clause-words : goal.returns-clause-words
returns-clause-words c = words_are_short

pub returns-clause-groups : goal.returns-clause-groups
returns-clause-groups c = groups_are_short

pub returns-clause-prefs : goal.returns-clause-prefs
returns-clause-prefs c = prefs_are_short
