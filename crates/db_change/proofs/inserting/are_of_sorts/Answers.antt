use Rattle.db_change.proofs.NewValues.{sorts_apart}
use Rattle.db_change.proofs.inserting.are_of_sorts.Goals as goal

pub returns-then-columns-values : goal.returns-then-columns-values
returns-then-columns-values c = sorts_apart c.args.columns.now c.args.values.now c.if-columns-values.true
