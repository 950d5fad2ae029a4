use Rattle.std.proofs.Common.{◌≡◌}
use Rattle.ct_keep.specs.EntryKeys.{found_at}
use Rattle.ct_keep.proofs.entry_keys.value_among.Given as goal

abbrev pub invariant-loop-other : goal.invariant-loop-other
invariant-loop-other g l = found_at l.fn.key l.other-iterator ≡ found_at l.fn.key l.initial.other-iterator
