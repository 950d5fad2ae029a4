use Rattle.std.proofs.Common.{◌≡◌, length}
use Rattle.tx_prefs.specs.Requests.{is_kind_among}
use Rattle.tx_prefs.proofs.requests.is_kind_among.Given as goal

abbrev pub invariant-loop-rest : goal.invariant-loop-rest
invariant-loop-rest l = is_kind_among l.kind l.rest ≡ is_kind_among l.kind l.kinds

abbrev pub decreases-loop-rest : goal.decreases-loop-rest
decreases-loop-rest l = length l.rest
