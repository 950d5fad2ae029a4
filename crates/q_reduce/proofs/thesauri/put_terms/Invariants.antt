use Rattle.std.proofs.Common.{◌≡◌, ◌++◌, length}
use Rattle.std.specs.List.{flat_map}
use Rattle.q_reduce.specs.Reducing.{term_phrases}
use Rattle.q_reduce.specs.Results.{context_of}
use Rattle.q_reduce.proofs.thesauri.put_terms.Given as goal

abbrev pub invariant-loop-rest : goal.invariant-loop-rest
invariant-loop-rest l = l.phrases.items ++ flat_map (term_phrases (context_of l.ctx)) l.rest ≡ l.fn.phrases.items ++ flat_map (term_phrases (context_of l.ctx)) l.terms

abbrev pub decreases-loop-rest : goal.decreases-loop-rest
decreases-loop-rest l = length l.rest
