use Rattle.ct_bytes.proofs.VarintWriting.{HasWritten}
use Rattle.ct_bytes.proofs.varints.spell.Given as goal

abbrev pub invariant-loop-rest : goal.invariant-loop-rest
invariant-loop-rest l = HasWritten l.bytes l.last l.rest l.fn.n

abbrev pub decreases-loop-rest : goal.decreases-loop-rest
decreases-loop-rest l = l.rest
