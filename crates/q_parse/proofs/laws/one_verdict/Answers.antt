use Rattle.q_parse.proofs.Unique.{one-verdict}
use Rattle.q_parse.proofs.laws.one_verdict.Goals as goal

pub returns : goal.returns
returns c = one-verdict
