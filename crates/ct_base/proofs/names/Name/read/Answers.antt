use Rattle.std.proofs.Common.{rules}
use Rattle.ct_base.proofs.Spelling.{lower_is_name}
use Rattle.ct_base.proofs.names.Name.read.Goals as goal

pub invariant_of-result : goal.invariant_of-result
invariant_of-result c = rw c.in_ok-text.ensures (lower_is_name c.as_bytes-bytes.result.now (search rules))
