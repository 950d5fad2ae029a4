use Rattle.ct_keep.specs.laws.Rising.{begins_with_prefix}
use Rattle.ct_keep.specs.laws.Tail.{first_above-tail}
use Rattle.ct_keep.proofs.scans.next_under.Goals as goal

pub step_under-requires-clause-begins : goal.step_under-requires-clause-begins
step_under-requires-clause-begins g c = rw c.in_ok-last.ensures (begins_with_prefix c.args.prefix.now c.args.after.now)

pub returns-clause-entry : goal.returns-clause-entry
returns-clause-entry g c m holds = rw (first_above-tail c.args.prefix.now c.args.after.now m) (rw c.in_ok-last.ensures at (c.step_under.ensures.entry m holds))
