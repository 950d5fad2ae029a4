use Rattle.q_parse.proofs.Limits.{query-keeps_limits}
use Rattle.q_parse.proofs.laws.each_query_keeps_limits.Goals as goal

pub returns : goal.returns
returns c = query-keeps_limits
