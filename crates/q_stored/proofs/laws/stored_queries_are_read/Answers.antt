use Rattle.q_stored.specs.laws.Decoding.{stored_read}
use Rattle.q_stored.proofs.laws.stored_queries_are_read.Goals as goal

pub returns : goal.returns
returns c = stored_read
