use Rattle.q_tree.specs.Trees.{tree_of}
use Rattle.db_find.proofs.PlainQueries.{plain_held, plain_means}
use Rattle.db_find.proofs.cat_queries.meaning_of_plain.Goals as goal

pub returns-clause-meaning : goal.returns-clause-meaning
returns-clause-meaning c = plain_means c.args.prefs.now (tree_of c.args.query.now) c.requires.plain c.meaning_by.result c.meaning_by.ensures.meaning

pub returns-clause-plain : goal.returns-clause-plain
returns-clause-plain c = plain_held c.args.prefs.now (tree_of c.args.query.now) c.requires.plain c.meaning_by.result c.meaning_by.ensures.meaning
