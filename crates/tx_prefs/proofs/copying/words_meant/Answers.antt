use Rattle.std.proofs.lemmas.Result.{IfOk-weaker}
use Rattle.tx_prefs.proofs.copying.words_meant.Goals as goal

pub returns-in-Some-clause-words : goal.returns-in-Some-clause-words
returns-in-Some-clause-words g c = λ m told. IfOk-weaker c.stoplist_words.result _ _ (λ x is ps holds. rw c.in-Some.is (is ps holds)) (c.stoplist_words.ensures.words m told)
