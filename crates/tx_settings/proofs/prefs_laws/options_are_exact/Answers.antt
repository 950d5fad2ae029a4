use Rattle.tx_settings.specs.laws.MadeAgain.{made_again}
use Rattle.tx_settings.specs.laws.Kept.{settings_are_kept}
use Rattle.tx_settings.specs.laws.Settable.{defaults_can_be_set, set_options_are_taken, taken_options_can_be_set}
use Rattle.tx_settings.proofs.prefs_laws.options_are_exact.Goals as goal

pub returns-clause-again : goal.returns-clause-again
returns-clause-again c = made_again

pub returns-clause-settings : goal.returns-clause-settings
returns-clause-settings c = settings_are_kept

pub returns-clause-defaults : goal.returns-clause-defaults
returns-clause-defaults c = defaults_can_be_set

pub returns-clause-made : goal.returns-clause-made
returns-clause-made c = taken_options_can_be_set

pub returns-clause-taken : goal.returns-clause-taken
returns-clause-taken c = set_options_are_taken
