use Rattle.db_find.proofs.Searchable.{searchable}
use Rattle.db_find.proofs.querying.meaning_by.Goals as goal

pub returns-in-Ok-clause-searchable : goal.returns-in-Ok-clause-searchable
returns-in-Ok-clause-searchable c = searchable c.in-Ok.found c.in-Ok.ensures.sound
