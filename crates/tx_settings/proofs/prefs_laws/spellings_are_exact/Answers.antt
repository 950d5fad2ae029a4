use Rattle.tx_settings.specs.laws.Apart.{group_apart, settings_apart, words_apart}
use Rattle.tx_settings.specs.laws.MadeAgain.{prefs_apart}
use Rattle.tx_settings.proofs.prefs_laws.spellings_are_exact.Goals as goal

pub returns-clause-settings : goal.returns-clause-settings
returns-clause-settings c = settings_apart

pub returns-clause-words : goal.returns-clause-words
returns-clause-words c = words_apart

pub returns-clause-groups : goal.returns-clause-groups
returns-clause-groups c = group_apart

pub returns-clause-prefs : goal.returns-clause-prefs
returns-clause-prefs c = prefs_apart
