use Rattle.std.proofs.Common.{◌≡◌, Some, None, drop}
use Rattle.ct_keep.specs.Content.{Content}
use Rattle.ct_keep.specs.KeeperViews.{ReadsKeeper}
use Rattle.ix_repack.specs.Putting.{AreJoined}
use Rattle.ix_repack.specs.Repacking.{stays, joins_all}
use Rattle.ix_repack.proofs.joining.join_row.Given as goal

abbrev pub invariant-loop-document : goal.invariant-loop-document
invariant-loop-document g l = record {
  reads : ReadsKeeper (g.K.Keeper.view l.fn.keeper) (g.K.Keeper.view l.keeper) None;
  joins : (m : Content) → (g.K.Keeper.view l.fn.keeper).content ≡ Some m
      → joins_all g.P.Place.form (stays l.mapped m l.index) l.out l.term (drop l.document-index l.documents) ≡ joins_all g.P.Place.form (stays l.mapped m l.index) l.fn.out l.term l.documents;
  grown : AreJoined g.P.Place.form l.term l.fn.out → AreJoined g.P.Place.form l.term l.out;
}
