use Rattle.std.proofs.Common.{◌≡◌, length}
use Rattle.tx_prefs.specs.Requests.{is_free}
use Rattle.tx_prefs.proofs.requests.is_free.Given as goal

abbrev pub invariant-loop-rest : goal.invariant-loop-rest
invariant-loop-rest l = is_free l.kind l.rest ≡ is_free l.kind l.requests

abbrev pub decreases-loop-rest : goal.decreases-loop-rest
decreases-loop-rest l = length l.rest
