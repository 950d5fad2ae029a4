use Rattle.db_state.proofs.Weighing.{weighs}
use Rattle.db_state.proofs.laws.stores_are_within_room.Goals as goal

pub returns : goal.returns
returns c = weighs
