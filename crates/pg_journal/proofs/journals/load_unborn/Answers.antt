use Rattle.pg_journal.proofs.Loading.{born_moments, born_loaded}
use Rattle.pg_journal.proofs.journals.load_unborn.Goals as goal

pub returns-in-Err-clause-moments : goal.returns-in-Err-clause-moments
returns-in-Err-clause-moments g c = λ image settled unborn. born_moments _ _ c.args.empty image unborn (c.make_store.ensures.moments image settled unborn)

pub returns-in-Ok-clause-moments : goal.returns-in-Ok-clause-moments
returns-in-Ok-clause-moments g c = λ image settled unborn. born_moments _ _ c.args.empty image unborn (c.make_store.ensures.moments image settled unborn)

pub returns-in-Ok-clause-loaded : goal.returns-in-Ok-clause-loaded
returns-in-Ok-clause-loaded g c = λ image settled unborn. born_loaded _ c.args.empty image unborn (c.in-Ok.ensures.stands image settled unborn)
