use Rattle.ct_bytes.proofs.ReadingSteps.{HasRead}
use Rattle.ct_bytes.proofs.varints.first_varint.Given as goal

abbrev pub invariant-loop-i : goal.invariant-loop-i
invariant-loop-i l = HasRead l.bytes l.i l.number l.weight
