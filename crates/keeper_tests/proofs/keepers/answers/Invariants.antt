use Rattle.ct_keep.specs.KeeperViews.{AcceptsChanges}
use Rattle.keeper_tests.proofs.keepers.answers.Given as goal

abbrev pub invariant-loop-call : goal.invariant-loop-call
invariant-loop-call g l = AcceptsChanges (g.K.Keeper.view l.keeper)
