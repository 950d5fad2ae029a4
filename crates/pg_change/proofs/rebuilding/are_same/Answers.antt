use Rattle.std.proofs.Common.{arith}
use Rattle.pg_change.proofs.Directories.{same_leaves}
use Rattle.pg_change.proofs.rebuilding.are_same.Goals as goal

pub returns-clause-same : goal.returns-clause-same
returns-clause-same c = λ same. same_leaves c.args.now.now c.args.old.now c.loop-i.i (omega (arith, c.if-now-old.false)) (omega (arith, c.loop-i-test.false, c.loop-i.auto.i-end)) c.loop-i.invariant
