use Rattle.std.proofs.Common.{◌≡◌, ◌+◌, ◌++◌, length}
use Rattle.tx_document.specs.Ranges.{words_at}
use Rattle.tx_document.proofs.words.words.Given as goal

abbrev pub invariant-loop-rest : goal.invariant-loop-rest
invariant-loop-rest l = record {
  count : l.place + length l.rest ≡ length l.tokens;
  so_far : l.words.items ++ words_at l.stop l.fields l.place l.rest ≡ words_at l.stop l.fields 0 l.tokens;
}

abbrev pub decreases-loop-rest : goal.decreases-loop-rest
decreases-loop-rest l = length l.rest
