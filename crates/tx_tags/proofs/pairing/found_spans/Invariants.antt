use Rattle.std.proofs.Common.{◌≡◌, ◌++◌, map}
use Rattle.tx_tags.specs.Stacks.{found_of}
use Rattle.tx_tags.proofs.pairing.found_spans.Given as goal

abbrev pub invariant-loop-pairing : goal.invariant-loop-pairing
invariant-loop-pairing l = l.all.items ++ map found_of l.pairing-iterator.rest.items ≡ map found_of l.initial.pairing-iterator.rest.items
