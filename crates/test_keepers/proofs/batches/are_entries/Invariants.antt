use Rattle.std.proofs.Common.{map, take}
use Rattle.ct_keep.specs.Changes.{AnyEntry, AreWell}
use Rattle.ct_keep.specs.SeenChanges.{change_of}
use Rattle.test_keepers.proofs.batches.are_entries.Given as goal

abbrev pub invariant-loop-change : goal.invariant-loop-change
invariant-loop-change l = AreWell AnyEntry (map change_of (take l.change-index l.change-items))
