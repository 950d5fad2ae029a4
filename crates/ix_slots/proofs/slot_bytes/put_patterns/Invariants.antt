use Rattle.std.proofs.Common.{◌≡◌, ◌++◌, length}
use Rattle.ix_slots.specs.SlotBytes.{patterns_bytes}
use Rattle.ix_slots.proofs.slot_bytes.put_patterns.Given as goal

abbrev pub invariant-loop-rest : goal.invariant-loop-rest
invariant-loop-rest l = l.out.items ++ patterns_bytes l.rest ≡ l.fn.out.items ++ patterns_bytes l.patterns

abbrev pub decreases-loop-rest : goal.decreases-loop-rest
decreases-loop-rest l = length l.rest
