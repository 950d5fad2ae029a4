use Rattle.std.proofs.Common.{◌≡◌}
use Rattle.ct_keep.specs.Content.{after}
use Rattle.ct_keep.specs.Pairs.{pairs}
use Rattle.ct_keep.specs.Transactions.{removals}
use Rattle.ct_keep.proofs.sorted_entries.SortedEntries.take_all.Given as goal

abbrev pub invariant-loop-key : goal.invariant-loop-key
invariant-loop-key l = after (removals (pairs l.key-iterator)) l.self ≡ after (removals (pairs l.initial.key-iterator)) l.fn.self
