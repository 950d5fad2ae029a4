use Rattle.std.proofs.Common.{◌≤◌, length, drop}
use Rattle.tx_tags.specs.Stacks.{IsPairing}
use Rattle.tx_tags.proofs.pairing.spans.Given as goal

abbrev pub invariant-loop-at : goal.invariant-loop-at
invariant-loop-at l = record {
  within : l.at ≤ length l.tags;
  pairs : IsPairing l.tag l.end (drop l.at l.tags) l.pairing;
}

abbrev pub decreases-loop-at : goal.decreases-loop-at
decreases-loop-at l = l.at
