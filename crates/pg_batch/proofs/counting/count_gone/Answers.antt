use Rattle.std.specs.Prelude.{map}
use Rattle.std.proofs.Common.{None, arith}
use Rattle.ct_keep.specs.SeenChanges.{change_of}
use Rattle.pg_batch.specs.Counts.{goes}
use Rattle.pg_batch.specs.laws.Counts.{counts_after}
use Rattle.pg_batch.proofs.Counted.{one_out, all_out}
use Rattle.pg_batch.proofs.counting.count_gone.Goals as goal

pub loop-i-preserved : goal.loop-i-preserved
loop-i-preserved c = λ p.
    one_out (goes p) p c.args.changes.now c.args.had.now c.loop-i.i c.index-changes-i.result None c.args.counts.now c.loop-i.counts c.uncount_gone.new.counts
    (omega (arith, c.loop-i-test.true, c.min-i-end.ensures)) c.index-changes-i.is (c.loop-i.invariant p) (c.uncount_gone.ensures.each p)

pub returns-clause-went : goal.returns-clause-went
returns-clause-went c = record {
  each = λ p.
      all_out (goes p) p c.args.changes.now c.args.had.now c.loop-i.i c.args.counts.now c.loop-i.counts
      (omega (arith, c.loop-i-test.false, c.min-i-end.ensures)) (c.loop-i.invariant p);
}

pub returns-clause-counts : goal.returns-clause-counts
returns-clause-counts c = λ m before rise there are came.
    counts_after (map change_of c.args.changes.now) c.args.had.now m before c.args.counts.now c.loop-i.counts rise there are came
    (record {
      each = λ p. all_out (goes p) p c.args.changes.now c.args.had.now c.loop-i.i c.args.counts.now c.loop-i.counts
          (omega (arith, c.loop-i-test.false, c.min-i-end.ensures)) (c.loop-i.invariant p);
    })
