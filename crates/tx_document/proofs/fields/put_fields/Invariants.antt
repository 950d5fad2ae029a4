use Rattle.std.proofs.Common.{◌≡◌, ◌++◌, length}
use Rattle.tx_document.specs.Ranges.{field_streams_at}
use Rattle.tx_document.proofs.fields.put_fields.Given as goal

abbrev pub invariant-loop-rest : goal.invariant-loop-rest
invariant-loop-rest l = l.streams.items ++ field_streams_at l.place l.rest ≡ l.fn.streams.items ++ field_streams_at l.place l.fields

abbrev pub decreases-loop-rest : goal.decreases-loop-rest
decreases-loop-rest l = length l.rest
