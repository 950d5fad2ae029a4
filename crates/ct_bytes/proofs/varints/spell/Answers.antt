use Rattle.std.proofs.Common.{refl}
use Rattle.ct_bytes.proofs.VarintWriting.{nothing_written, written_more, written_last}
use Rattle.ct_bytes.proofs.varints.spell.Goals as goal

pub loop-rest-init : goal.loop-rest-init
loop-rest-init c = nothing_written _ c.args.n refl c.ranges.n.fits

pub loop-rest-preserved : goal.loop-rest-preserved
loop-rest-preserved c = written_more _ _ _ _ c.loop-rest.invariant c.loop-rest-test.true

pub returns-clause-spelt : goal.returns-clause-spelt
returns-clause-spelt c = written_last _ _ _ _ c.loop-rest.invariant c.loop-rest-test.false
