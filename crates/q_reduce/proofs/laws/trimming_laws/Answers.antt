use Rattle.q_reduce.proofs.TrimmedSlots.{only_any_dropped, trimmed_ends}
use Rattle.q_reduce.proofs.laws.trimming_laws.Goals as goal

pub returns-clause-only_any : goal.returns-clause-only_any
returns-clause-only_any c = only_any_dropped

pub returns-clause-ends : goal.returns-clause-ends
returns-clause-ends c = trimmed_ends
