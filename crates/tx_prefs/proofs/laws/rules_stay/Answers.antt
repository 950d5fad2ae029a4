use Rattle.tx_prefs.specs.laws.Keeps.{settings_kept, taken_kept, stopwords_kept, groups_kept, flags_kept}
use Rattle.tx_prefs.proofs.laws.rules_stay.Goals as goal

pub returns-clause-order : goal.returns-clause-order
returns-clause-order c = settings_kept

pub returns-clause-taken : goal.returns-clause-taken
returns-clause-taken c = taken_kept

pub returns-clause-stopwords : goal.returns-clause-stopwords
returns-clause-stopwords c = stopwords_kept

pub returns-clause-groups : goal.returns-clause-groups
returns-clause-groups c = groups_kept

pub returns-clause-flags : goal.returns-clause-flags
returns-clause-flags c = flags_kept
