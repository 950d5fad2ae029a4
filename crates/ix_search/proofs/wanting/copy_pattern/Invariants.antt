use Rattle.std.proofs.Common.{◌≡◌, take}
use Rattle.ix_search.proofs.wanting.copy_pattern.Given as goal

abbrev pub invariant-loop-bit : goal.invariant-loop-bit
invariant-loop-bit l = l.copy.items ≡ take l.bit-index l.pattern
