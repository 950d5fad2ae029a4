use Rattle.std.proofs.Common.{◌≡◌, length}
use Rattle.std.specs.List.{All}
use Rattle.tx_tags.specs.Stacks.{IsEmpty}
use Rattle.tx_tags.proofs.pairing.no_pairings.Given as goal

abbrev pub invariant-loop : goal.invariant-loop
invariant-loop l = record {
  count : length l.pairings.items ≡ l.counter;
  empty : All IsEmpty l.pairings.items;
}
