use Rattle.std.specs.Prelude.{map}
use Rattle.std.proofs.Common.{None, arith}
use Rattle.ct_keep.specs.SeenChanges.{change_of}
use Rattle.pg_batch.specs.Counts.{comes}
use Rattle.pg_batch.specs.laws.Counts.{counts_back}
use Rattle.pg_batch.proofs.Counted.{one_out, all_out}
use Rattle.pg_batch.proofs.counting.uncount_new.Goals as goal

pub loop-i-preserved : goal.loop-i-preserved
loop-i-preserved c = λ p.
    one_out (comes p) p c.args.changes.now c.args.had.now c.loop-i.i c.index-changes-i.result None c.args.counts.now c.loop-i.counts c.uncount_one.new.counts
    (omega (arith, c.loop-i-test.true, c.min-i-end.ensures)) c.index-changes-i.is (c.loop-i.invariant p) (c.uncount_one.ensures.each p)

pub returns-clause-left : goal.returns-clause-left
returns-clause-left c = record {
  each = λ p.
      all_out (comes p) p c.args.changes.now c.args.had.now c.loop-i.i c.args.counts.now c.loop-i.counts
      (omega (arith, c.loop-i-test.false, c.min-i-end.ensures)) (c.loop-i.invariant p);
}

pub returns-clause-back : goal.returns-clause-back
returns-clause-back c = λ before came.
    counts_back (map change_of c.args.changes.now) c.args.had.now before c.args.counts.now c.loop-i.counts came
    (record {
      each = λ p. all_out (comes p) p c.args.changes.now c.args.had.now c.loop-i.i c.args.counts.now c.loop-i.counts
          (omega (arith, c.loop-i-test.false, c.min-i-end.ensures)) (c.loop-i.invariant p);
    })
