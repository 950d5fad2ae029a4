use Rattle.db_change.specs.Updating.{IsKeptAssign}
use Rattle.db_change.proofs.AssignSteps.{more_of, all_of}
use Rattle.db_change.proofs.keeping.keep_assigns.Goals as goal

pub loop-assign-preserved : goal.loop-assign-preserved
loop-assign-preserved c = more_of IsKeptAssign c.args.assigns.now c.loop-assign.assign-index c.assign-item.result c.loop-assign.invariant c.loop-assign-test.true c.assign-item.is (c.keep_value.ensures.number, c.keep_value.ensures.text)

pub returns : goal.returns
returns c = all_of IsKeptAssign c.args.assigns.now c.loop-assign.assign-index c.loop-assign-test.false c.loop-assign.invariant
