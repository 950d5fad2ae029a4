use Rattle.std.proofs.Common.{◌≡◌, ◌++◌, ◌∷◌, eqb, false, length}
use Rattle.q_match.specs.Places.{moved}
use Rattle.q_match.proofs.taking.put_after_char.Given as goal

abbrev pub invariant-loop-left : goal.invariant-loop-left
invariant-loop-left l = l.out.items ++ moved (λ c. eqb l.wanted c) l.rest l.left ≡ false ∷ moved (λ c. eqb l.wanted c) l.marks l.key

abbrev pub decreases-loop-left : goal.decreases-loop-left
decreases-loop-left l = length l.left
