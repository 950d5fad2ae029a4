use Rattle.db_state.proofs.StoreEntries.{stores_are_well}
use Rattle.db_state.proofs.laws.stores_are_well.Goals as goal

pub returns : goal.returns
returns c = stores_are_well
