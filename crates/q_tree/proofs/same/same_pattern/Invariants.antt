use Rattle.std.proofs.Common.{◌≡◌, drop}
use Rattle.q_tree.specs.Slots.{same_pattern}
use Rattle.q_tree.proofs.same.same_pattern.Given as goal

abbrev pub invariant-loop-bit : goal.invariant-loop-bit
invariant-loop-bit l = same_pattern (drop l.bit-index l.a) l.others ≡ same_pattern l.a l.b
