use Rattle.std.proofs.Common.{Some, ap, ◌∙◌}
use Rattle.std.specs.FinMap.{get}
use Rattle.tx_settings.specs.PrefsBytes.{are_words, words_bytes}
use Rattle.tx_settings.specs.laws.Apart.{words_apart}
use Rattle.tx_prefs.specs.laws.Lengths.{stopwords_are_words}
use Rattle.tx_prefs.proofs.ReadSteps.{read_is}
use Rattle.tx_prefs.proofs.lookups.stoplist_words.Goals as goal

pub returns-clause-words : goal.returns-clause-words
returns-clause-words g c = λ m told ps holds.
    read_is are_words words_bytes words_apart _ _ (get ps.stoplists c.args.name.now) c.in_ok-words.ensures
    (ap Some c.deref.ensures.value ∙ (rw c.in-Some.is at (c.in_ok-value.ensures.value m told)) ∙ holds.stand.stoplists c.args.name.now)
    (λ x is. stopwords_are_words x (holds.rules.stoplists.each c.args.name.now x is))
