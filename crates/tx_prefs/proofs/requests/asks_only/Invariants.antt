use Rattle.std.proofs.Common.{◌≡◌, length}
use Rattle.tx_prefs.specs.Requests.{asks_only}
use Rattle.tx_prefs.proofs.requests.asks_only.Given as goal

abbrev pub invariant-loop-rest : goal.invariant-loop-rest
invariant-loop-rest l = asks_only l.kinds l.rest ≡ asks_only l.kinds l.requests

abbrev pub decreases-loop-rest : goal.decreases-loop-rest
decreases-loop-rest l = length l.rest
