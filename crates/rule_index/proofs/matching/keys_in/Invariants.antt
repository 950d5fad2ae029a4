use Rattle.std.proofs.Common.{◌≡◌, ◌++◌, length}
use Rattle.q_stored.specs.Anchoring.{document_keys}
use Rattle.rule_index.specs.Matching.{doc_words}
use Rattle.rule_index.proofs.matching.keys_in.Given as goal

abbrev pub invariant-loop-rest : goal.invariant-loop-rest
invariant-loop-rest l = l.keys.items ++ document_keys (doc_words l.rest) ≡ document_keys (doc_words l.words)

abbrev pub decreases-loop-rest : goal.decreases-loop-rest
decreases-loop-rest l = length l.rest
