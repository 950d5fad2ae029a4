use Rattle.std.proofs.Common.{◌≡◌, ◌++◌}
use Rattle.tx_settings.proofs.reading.keys_of.Given as goal

abbrev pub invariant-loop-word : goal.invariant-loop-word
invariant-loop-word l = l.keys.items ++ l.word-iterator.rest.items ≡ l.fn.words.items
