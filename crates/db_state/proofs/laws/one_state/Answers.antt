use Rattle.db_state.specs.laws.OneState.{one_state}
use Rattle.db_state.proofs.laws.one_state.Goals as goal

pub returns : goal.returns
returns c = one_state
