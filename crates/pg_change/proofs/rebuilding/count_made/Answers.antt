use Rattle.std.proofs.Common.{rules, ◌<◌, length, arith}
use Rattle.pg_change.proofs.Directories.{made_within, made_next}
use Rattle.pg_change.proofs.rebuilding.count_made.Goals as goal

pub overflow_add-made : goal.overflow_add-made
overflow_add-made c =
    let few = made_within c.args.leaves.now c.loop-i.i in
    omega (arith, few, c.loop-i.invariant, c.one_if_made-made.ensures.few, c.loop-i-test.true, c.loop-i.auto.i-end, c.well_formed.0.0)

pub loop-i-preserved : goal.loop-i-preserved
loop-i-preserved c =
    let less : c.loop-i.i < length c.args.leaves.now = search rules in
    let next = made_next c.args.leaves.now c.loop-i.i c.index-leaves-i.result less c.index-leaves-i.is in
    omega (arith, next, c.loop-i.invariant, c.one_if_made-made.ensures.is)
