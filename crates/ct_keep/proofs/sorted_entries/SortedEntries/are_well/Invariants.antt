use Rattle.ct_keep.specs.Pairs.{pairs}
use Rattle.ct_keep.proofs.EachWell.{AsMuch}
use Rattle.ct_keep.proofs.sorted_entries.SortedEntries.are_well.Given as goal

abbrev pub invariant-loop-key : goal.invariant-loop-key
invariant-loop-key g l = AsMuch (g.H.Shape.is_well l.fn.shape) (pairs l.initial.key-iterator) (pairs l.key-iterator)
