use Rattle.std.proofs.Common.{◌≡◌, take, map}
use Rattle.ct_keep.specs.SeenChanges.{change_of}
use Rattle.console_tests.proofs.histories.copy_of.Given as goal

abbrev pub invariant-loop-change : goal.invariant-loop-change
invariant-loop-change l = l.copy ≡ map change_of (take l.change-index l.change-items)
