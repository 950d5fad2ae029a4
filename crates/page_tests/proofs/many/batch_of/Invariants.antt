use Rattle.ct_keep.specs.Changes.{AnyEntry, AreWell}
use Rattle.page_tests.proofs.many.batch_of.Given as goal

abbrev pub invariant-loop-number : goal.invariant-loop-number
invariant-loop-number l = AreWell AnyEntry l.batch
