use Rattle.std.proofs.Common.{◌-◌, drop, arith}
use Rattle.ix_cursor.proofs.Counting.{enough, one_more, drop_before}
use Rattle.ix_cursor.proofs.scoring.count_distinct.Goals as goal

pub returns-then-len-ge100 : goal.returns-then-len-ge100
returns-then-len-ge100 c = enough c.loop-left.found.items c.args.pairs.now c.loop-left.left c.loop-left.invariant.those (omega (arith, c.len.ensures, c.if-len-ge100.true))

pub loop-left-preserved : goal.loop-left-preserved
loop-left-preserved c = record {
  those = one_more c.loop-left.found.items c.put_new.new.found.items (drop c.loop-left.left c.args.pairs.now) (drop (c.loop-left.left - 1) c.args.pairs.now) _ c.loop-left.invariant.those (drop_before c.args.pairs.now c.loop-left.left _ (omega (arith, c.loop-left-test.true)) c.loop-left.invariant.within) c.in_ok-put_new.ensures;
  within = omega (arith, c.loop-left.invariant.within);
}
