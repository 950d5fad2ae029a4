use Rattle.ct_keep.specs.Changes.{AnyEntry}
use Rattle.ct_keep.specs.laws.Changes.{well_weaker}
use Rattle.keeper_tests.proofs.keepers.committed.Goals as goal

pub commit-requires-clause-well : goal.commit-requires-clause-well
commit-requires-clause-well g c = well_weaker AnyEntry (g.K.Keeper.view c.args.keeper.now).well c.requires.takes c.in_ok-batch.batch c.in_ok-batch.ensures
