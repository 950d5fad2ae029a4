use Rattle.std.proofs.Common.{◌≡◌, ◌++◌, drop}
use Rattle.ix_slots.specs.SlotBytes.{bits_bytes}
use Rattle.ix_slots.proofs.slot_bytes.put_pattern.Given as goal

abbrev pub invariant-loop-bit : goal.invariant-loop-bit
invariant-loop-bit l = l.out.items ++ bits_bytes (drop l.bit-index l.pattern) ≡ l.fn.out.items ++ bits_bytes l.pattern
