use Rattle.std.proofs.Common.{◌≡◌, ◌≤◌, ◌<◌, ℕ, get_or, length, drop}
use Rattle.tx_tags.specs.declared.pairing.Pairing.{Pairing}
use Rattle.tx_tags.specs.Stacks.{IsPairing}
use Rattle.tx_tags.proofs.pairing.all_spans.Given as goal

abbrev pub invariant-loop-at : goal.invariant-loop-at
invariant-loop-at l = record {
  within : l.at ≤ length l.tags;
  count : length l.pairings.items ≡ l.count;
  pairs : (k : ℕ) (d : Pairing) → k < l.count → IsPairing k l.end (drop l.at l.tags) (get_or l.pairings.items k d);
}

abbrev pub decreases-loop-at : goal.decreases-loop-at
decreases-loop-at l = l.at
