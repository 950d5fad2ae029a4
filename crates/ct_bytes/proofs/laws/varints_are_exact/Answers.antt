use Rattle.ct_bytes.specs.laws.Varints.{varint_apart, varint_at_one, varint_placed}
use Rattle.ct_bytes.proofs.laws.varints_are_exact.Goals as goal

pub returns-clause-apart : goal.returns-clause-apart
returns-clause-apart c = varint_apart

pub returns-clause-one : goal.returns-clause-one
returns-clause-one c = varint_at_one

pub returns-clause-read_back : goal.returns-clause-read_back
returns-clause-read_back c = varint_placed
