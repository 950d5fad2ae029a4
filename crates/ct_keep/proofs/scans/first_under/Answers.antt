use Rattle.ct_keep.specs.laws.Tail.{entries_above-tail_nil}
use Rattle.ct_keep.proofs.scans.first_under.Goals as goal

pub returns-clause-entry : goal.returns-clause-entry
returns-clause-entry g c m holds = rw (entries_above-tail_nil c.args.prefix.now m) at (c.next_under.ensures.entry m holds)
