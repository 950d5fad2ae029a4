use Rattle.q_reduce.proofs.JoinedKeys.{keys_of_words, keys_rise_once}
use Rattle.q_reduce.proofs.laws.joined_key_laws.Goals as goal

pub returns-clause-words : goal.returns-clause-words
returns-clause-words c = keys_of_words

pub returns-clause-rise : goal.returns-clause-rise
returns-clause-rise c = keys_rise_once
