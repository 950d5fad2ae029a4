use Rattle.cat_query.proofs.Verdicts.{one_verdict}
use Rattle.cat_query.proofs.laws.one_verdict.Goals as goal

pub returns : goal.returns
returns c = one_verdict
