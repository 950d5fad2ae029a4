use Rattle.std.proofs.lemmas.Result.{IfOk-weaker}
use Rattle.db_state.specs.laws.Holding.{holds_preferences}
use Rattle.db_prefs.proofs.lookups.words_of.Goals as goal

pub returns-in-Some-clause-words : goal.returns-in-Some-clause-words
returns-in-Some-clause-words g c = λ m k holds stands. IfOk-weaker c.stoplist_words.result _ _ (λ x is. rw c.in-Some.is (is m.preferences (holds_preferences k m stands))) (c.stoplist_words.ensures.words k holds)
