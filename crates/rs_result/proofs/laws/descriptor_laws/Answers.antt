use Rattle.std.proofs.Common.{sym}
use Rattle.rs_result.proofs.Agreement.{descriptor_is, is_descriptor, one_descriptor}
use Rattle.rs_result.proofs.laws.descriptor_laws.Goals as goal

pub returns-clause-read : goal.returns-clause-read
returns-clause-read c = λ text parts. (is_descriptor text parts, λ e. descriptor_is text parts (sym e))

pub returns-clause-one : goal.returns-clause-one
returns-clause-one c = one_descriptor
