use Rattle.db_find.proofs.PlainQueries.{as_verdict, refused_plain}
use Rattle.db_find.proofs.cat_queries.meaning_of_catsearch.Goals as goal

pub returns-in-Ok-clause-meaning : goal.returns-in-Ok-clause-meaning
returns-in-Ok-clause-meaning c = as_verdict c.args.prefs.now _ _ c.meaning_of_plain.result c.in-Ok.ensures.verdict c.meaning_of_plain.ensures.meaning

pub returns-in-Err-Syntax-clause-plain : goal.returns-in-Err-Syntax-clause-plain
returns-in-Err-Syntax-clause-plain c = refused_plain c.refused.result _ c.refused.ensures.meaning

pub returns-in-Err-TooLarge-clause-plain : goal.returns-in-Err-TooLarge-clause-plain
returns-in-Err-TooLarge-clause-plain c = refused_plain c.refused-in-Err-TooLarge.result _ c.refused-in-Err-TooLarge.ensures.meaning
