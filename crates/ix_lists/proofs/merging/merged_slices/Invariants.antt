use Rattle.std.proofs.Common.{drop}
use Rattle.ix_lists.proofs.Merges.{Merging}
use Rattle.ix_lists.proofs.merging.merged_slices.Given as goal

abbrev pub invariant-loop-number : goal.invariant-loop-number
invariant-loop-number l = Merging l.numbers l.others (drop l.number-index l.numbers) l.rest l.out.items
