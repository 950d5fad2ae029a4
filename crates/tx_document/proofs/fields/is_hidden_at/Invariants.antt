use Rattle.std.proofs.Common.{◌≡◌, length}
use Rattle.tx_document.specs.Ranges.{is_hidden_at}
use Rattle.tx_document.proofs.fields.is_hidden_at.Given as goal

abbrev pub invariant-loop-rest : goal.invariant-loop-rest
invariant-loop-rest l = is_hidden_at l.place l.rest ≡ is_hidden_at l.place l.fields

abbrev pub decreases-loop-rest : goal.decreases-loop-rest
decreases-loop-rest l = length l.rest
