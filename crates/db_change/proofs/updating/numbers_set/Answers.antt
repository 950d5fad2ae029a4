use Rattle.db_change.specs.Updating.{number_set}
use Rattle.db_change.proofs.NewValues.{filter_none, filter_some}
use Rattle.db_change.proofs.updating.numbers_set.Goals as goal

pub loop-column-preserved-in_default : goal.loop-column-preserved-in_default
loop-column-preserved-in_default c = filter_none (number_set c.args.assigns.now) c.args.columns.now c.loop-column.column-index c.column-item.result c.loop-column.set.items c.loop-column.invariant c.loop-column-test.true c.column-item.is c.in_default.ensures

pub loop-column-preserved : goal.loop-column-preserved
loop-column-preserved c = filter_some (number_set c.args.assigns.now) c.args.columns.now c.loop-column.column-index c.column-item.result c.loop-column.set.items c.loop-column.invariant c.loop-column-test.true c.column-item.is c.in-Some.number c.push.new.self.items c.in-Some.ensures c.in_ok-push.ensures.items
