use Rattle.db_engine.proofs.Alike.{optimising_changes_no_reply}
use Rattle.db_engine.proofs.laws.optimising_changes_no_reply.Goals as goal

pub returns : goal.returns
returns c = optimising_changes_no_reply
