use Rattle.cat_where.proofs.Verdicts.{verdict_is_true}
use Rattle.cat_where.proofs.laws.verdict_is_true.Goals as goal

pub returns : goal.returns
returns c = verdict_is_true
