use Rattle.std.proofs.Common.{◌≡◌, length}
use Rattle.q_reduce.specs.Reducing.{thesaurus_named}
use Rattle.q_reduce.specs.Results.{named_pairs}
use Rattle.q_reduce.proofs.thesauri.thesaurus_named.Given as goal

abbrev pub invariant-loop-rest : goal.invariant-loop-rest
invariant-loop-rest l = thesaurus_named l.name (named_pairs l.rest) ≡ thesaurus_named l.name (named_pairs l.thesauri)

abbrev pub decreases-loop-rest : goal.decreases-loop-rest
decreases-loop-rest l = length l.rest
