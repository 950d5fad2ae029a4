use Rattle.std.proofs.Common.{arith}
use Rattle.ct_bytes.specs.Varints.{varint}
use Rattle.ct_bytes.proofs.VarintLengths.{one_byte, two_bytes, three_bytes, four_bytes, five_bytes}
use Rattle.ct_bytes.proofs.varints.varint_len.Goals as goal

pub returns-in-0-to-127 : goal.returns-in-0-to-127
unfolding varint
returns-in-0-to-127 c = one_byte 4 c.args.n (omega arith)

pub returns-in-128-to-16383 : goal.returns-in-128-to-16383
unfolding varint
returns-in-128-to-16383 c = two_bytes 3 c.args.n (omega arith) (omega arith)

pub returns-in-16384-to-2097151 : goal.returns-in-16384-to-2097151
unfolding varint
returns-in-16384-to-2097151 c = three_bytes 2 c.args.n (omega arith) (omega arith)

pub returns-in-2097152-to-268435455 : goal.returns-in-2097152-to-268435455
unfolding varint
returns-in-2097152-to-268435455 c = four_bytes 1 c.args.n (omega arith) (omega arith)

pub returns-in_default : goal.returns-in_default
unfolding varint
returns-in_default c = five_bytes 0 c.args.n (omega arith) (omega arith)
