use Rattle.std.proofs.Common.{◌≡◌, ◌+◌, ◌≤◌, length, map}
use Rattle.std.specs.Str.{chars}
use Rattle.tx_stop.specs.StopKeys.{with_words, stop_keys}
use Rattle.tx_stop.proofs.stopping.StopKeys.new.Given as goal

abbrev pub invariant-loop-rest : goal.invariant-loop-rest
invariant-loop-rest l = record {
  few : length l.keys + length l.rest ≤ length l.words;
  so_far : with_words l.base_letter l.mixed_case l.keys (map chars l.rest) ≡ stop_keys l.base_letter l.mixed_case (map chars l.words);
}

abbrev pub decreases-loop-rest : goal.decreases-loop-rest
decreases-loop-rest l = length l.rest
