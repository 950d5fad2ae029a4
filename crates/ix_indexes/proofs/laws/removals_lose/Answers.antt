use Rattle.ix_indexes.specs.laws.Removing.{remove_loses, remove_all_loses}
use Rattle.ix_indexes.proofs.laws.removals_lose.Goals as goal

pub returns : goal.returns
returns c = record { one = remove_loses; all = remove_all_loses }
