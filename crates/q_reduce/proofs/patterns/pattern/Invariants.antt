use Rattle.std.proofs.Common.{◌≡◌, ◌++◌, length}
use Rattle.std.specs.List.{flat_map}
use Rattle.q_reduce.specs.Reducing.{pattern, pattern_bit}
use Rattle.q_reduce.specs.Results.{context_of}
use Rattle.q_reduce.proofs.patterns.pattern.Given as goal

abbrev pub invariant-loop-rest : goal.invariant-loop-rest
invariant-loop-rest l = l.bits.items ++ flat_map (pattern_bit (context_of l.ctx)) l.rest ≡ pattern (context_of l.ctx) l.word

abbrev pub decreases-loop-rest : goal.decreases-loop-rest
decreases-loop-rest l = length l.rest
