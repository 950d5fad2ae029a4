use Rattle.std.proofs.Common.{◌≡◌, length}
use Rattle.std.specs.Str.{all_scalars}
use Rattle.tx_settings.proofs.preferences.keep_chars.Given as goal

abbrev pub invariant-loop-rest : goal.invariant-loop-rest
invariant-loop-rest l = all_scalars l.rest ≡ all_scalars l.chars

abbrev pub decreases-loop-rest : goal.decreases-loop-rest
decreases-loop-rest l = length l.rest
