use Rattle.std.proofs.Common.{◌≡◌, take}
use Rattle.ix_search.proofs.wanting.copy_patterns.Given as goal

abbrev pub invariant-loop-pattern : goal.invariant-loop-pattern
invariant-loop-pattern l = l.copy.items ≡ take l.pattern-index l.patterns
