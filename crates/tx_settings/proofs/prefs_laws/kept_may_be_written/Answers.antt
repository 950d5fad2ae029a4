use Rattle.tx_settings.specs.laws.Kept.{kept_settings_may_be_written, kept_words_may_be_written}
use Rattle.tx_settings.proofs.prefs_laws.kept_may_be_written.Goals as goal

pub returns-clause-settings : goal.returns-clause-settings
returns-clause-settings c = kept_settings_may_be_written

pub returns-clause-words : goal.returns-clause-words
returns-clause-words c = kept_words_may_be_written
