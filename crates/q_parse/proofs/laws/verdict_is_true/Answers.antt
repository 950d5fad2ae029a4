use Rattle.q_parse.proofs.Verdicts.{verdict-true}
use Rattle.q_parse.proofs.laws.verdict_is_true.Goals as goal

pub returns : goal.returns
returns c = verdict-true
