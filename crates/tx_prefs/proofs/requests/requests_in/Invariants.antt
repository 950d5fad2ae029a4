use Rattle.std.proofs.Common.{◌≡◌, [], length, map}
use Rattle.tx_prefs.specs.Requests.{requests_from}
use Rattle.tx_prefs.specs.RequestWords.{read_word}
use Rattle.tx_prefs.proofs.requests.requests_in.Given as goal

abbrev pub invariant-loop-rest : goal.invariant-loop-rest
invariant-loop-rest l = requests_from l.requests.items (map read_word l.rest) ≡ requests_from [] (map read_word l.words)

abbrev pub decreases-loop-rest : goal.decreases-loop-rest
decreases-loop-rest l = length l.rest
