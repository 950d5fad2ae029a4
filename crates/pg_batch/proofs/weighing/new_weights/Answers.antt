use Rattle.std.proofs.Common.{arith}
use Rattle.pg_batch.proofs.Weighed.{more_weight}
use Rattle.pg_batch.proofs.weighing.new_weights.Goals as goal

pub loop-change-preserved : goal.loop-change-preserved
loop-change-preserved c = record {
  small = omega (arith, c.loop-change.invariant.small, c.new_weight.type_inv);
  total =
      let more = more_weight c.args.changes.now c.loop-change.change-index c.change-item.result c.loop-change-test.true c.change-item.is in
      omega (arith, more, c.loop-change.invariant.total, c.new_weight.ensures);
}
