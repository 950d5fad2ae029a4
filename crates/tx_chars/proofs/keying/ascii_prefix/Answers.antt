use Rattle.std.proofs.Common.{sym, arith, take_all}
use Rattle.tx_chars.proofs.keying.ascii_prefix.Goals as goal

pub returns-then-bytes-le-TOKEN_LIMIT : goal.returns-then-bytes-le-TOKEN_LIMIT
returns-then-bytes-le-TOKEN_LIMIT c = sym (take_all 255 c.args.bytes.now (omega (arith, c.if-bytes-le-TOKEN_LIMIT.true)))
