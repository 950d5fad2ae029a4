use Rattle.ct_keep.specs.Changes.{AnyEntry, AreWell}
use Rattle.keeper_tests.proofs.entries.batch_of.Given as goal

abbrev pub invariant-loop-change : goal.invariant-loop-change
invariant-loop-change l = AreWell AnyEntry l.batch
