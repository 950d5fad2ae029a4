use Rattle.std.proofs.Common.{◌≡◌, ◌-◌, ◌^◌, Some, None}
use Rattle.ct_keep.specs.Content.{Content}
use Rattle.ct_keep.specs.KeeperViews.{ReadsKeeper}
use Rattle.ct_keep.specs.Looks.{no_looks, RisesBy}
use Rattle.ct_entry.specs.Keys.{at}
use Rattle.ix_docmap.specs.Readings.{row_at_document}
use Rattle.ix_cursor.specs.Candidates.{ahead, least_ahead}
use Rattle.ix_search.proofs.MapSteps.{AreRowsSoFar}
use Rattle.ix_search.proofs.mapping.map_documents.Given as goal

abbrev pub invariant-documents : goal.invariant-documents
invariant-documents g l = record {
  reads : ReadsKeeper (g.K.Keeper.view l.fn.keeper) (g.K.Keeper.view l.keeper) None;
  at_most : RisesBy no_looks (g.K.Keeper.view l.fn.keeper).counts (g.K.Keeper.view l.keeper).counts;
  rows : (m : Content) → (g.K.Keeper.view l.fn.keeper).content ≡ Some m → AreRowsSoFar (row_at_document (at m) l.index) (ahead l.fn.candidates) (ahead l.candidates) l.rows;
}

abbrev pub decreases-documents : goal.decreases-documents
decreases-documents g l = 2 ^ 32 - least_ahead l.candidates
