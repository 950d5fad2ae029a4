use Rattle.db_engine.specs.Runs.{all_keep}
use Rattle.db_engine.proofs.laws.runs_keep_limit.Goals as goal

pub returns : goal.returns
returns c = all_keep
