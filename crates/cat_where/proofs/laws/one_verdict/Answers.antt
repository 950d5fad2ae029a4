use Rattle.cat_where.proofs.Verdicts.{one_verdict}
use Rattle.cat_where.proofs.laws.one_verdict.Goals as goal

pub returns : goal.returns
returns c = one_verdict
