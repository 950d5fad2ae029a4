use Rattle.std.proofs.Common.{◌<◌, length, None, arith}
use Rattle.pg_batch.specs.Counts.{comes}
use Rattle.pg_batch.proofs.Counted.{more_counted, all_in}
use Rattle.pg_batch.proofs.counting.count_new.Goals as goal

pub loop-i-preserved : goal.loop-i-preserved
loop-i-preserved c = λ p.
    let less : c.loop-i.i < length c.args.changes.now = omega (arith, c.loop-i-test.true, c.min-i-end.ensures) in
    let less_too : c.loop-i.i < length c.args.had.now = omega (arith, c.loop-i-test.true, c.min-i-end.ensures) in
    let more = more_counted (comes p) c.args.changes.now c.args.had.now c.loop-i.i c.index-changes-i.result None less less_too c.index-changes-i.is in
    let one = c.in-Ok.ensures.ok in
    omega (arith, more, one.each p, c.loop-i.invariant p)

pub returns-clause-ok : goal.returns-clause-ok
returns-clause-ok c = record {
  each = λ p.
      all_in (comes p) p c.args.changes.now c.args.had.now c.loop-i.i c.args.counts.now c.loop-i.counts
      (omega (arith, c.loop-i-test.false, c.min-i-end.ensures)) (c.loop-i.invariant p);
}
