use Rattle.std.proofs.Common.{length, take, arith, length-take}
use Rattle.st_cut.proofs.Cutting.{cutting_more, cutting_all}
use Rattle.st_cut.proofs.scripts.cut.Goals as goal

pub loop-byte-preserved : goal.loop-byte-preserved
loop-byte-preserved c = cutting_more _ _ _ _ _ c.loop-byte-test.true
    (c.in_ok-cut_byte.ensures (length c.args.script.now) (take c.loop-byte.byte-index c.args.script.now) (omega (arith, length-take c.loop-byte.byte-index c.args.script.now)) c.loop-byte.invariant)

pub returns : goal.returns
returns c =
    c.in_ok-cut_end.ensures (length c.args.script.now) c.args.script.now (omega arith) (cutting_all _ _ _ _ _ c.loop-byte-test.false c.loop-byte.invariant)
