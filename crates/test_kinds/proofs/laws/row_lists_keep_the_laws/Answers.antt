use Rattle.test_kinds.specs.laws.RowLists.{lists_keep}
use Rattle.test_kinds.proofs.laws.row_lists_keep_the_laws.Goals as goal

pub returns : goal.returns
returns c = lists_keep
