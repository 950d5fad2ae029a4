use Rattle.std.proofs.Common.{◌≡◌, drop}
use Rattle.q_tree.specs.Slots.{same_patterns}
use Rattle.q_tree.proofs.same.same_patterns.Given as goal

abbrev pub invariant-loop-pattern : goal.invariant-loop-pattern
invariant-loop-pattern l = same_patterns (drop l.pattern-index l.a) l.others ≡ same_patterns l.a l.b
