use Rattle.std.proofs.Common.{◌≡◌, length}
use Rattle.tx_prefs.specs.Requests.{name_for}
use Rattle.tx_prefs.proofs.requests.name_for.Given as goal

abbrev pub invariant-loop-rest : goal.invariant-loop-rest
invariant-loop-rest l = name_for l.kind l.rest ≡ name_for l.kind l.requests

abbrev pub decreases-loop-rest : goal.decreases-loop-rest
decreases-loop-rest l = length l.rest
