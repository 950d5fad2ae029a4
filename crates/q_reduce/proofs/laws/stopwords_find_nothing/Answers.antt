use Rattle.q_reduce.proofs.Stopwords.{plain_stopwords_find_nothing, stopwords_find_nothing}
use Rattle.q_reduce.proofs.laws.stopwords_find_nothing.Goals as goal

pub returns-clause-where_none_is_there : goal.returns-clause-where_none_is_there
returns-clause-where_none_is_there c = stopwords_find_nothing

pub returns-clause-plain : goal.returns-clause-plain
returns-clause-plain c = plain_stopwords_find_nothing
