use Rattle.std.proofs.Common.{◌≡◌, ◌≤◌, ◌<◌, ◌-◌, ◌^◌, ℕ, Some, None}
use Rattle.ct_keep.specs.Content.{Content}
use Rattle.ct_keep.specs.KeeperViews.{ReadsKeeper}
use Rattle.ct_keep.specs.Looks.{no_looks, RisesBy}
use Rattle.ct_entry.specs.Keys.{at}
use Rattle.ix_docmap.specs.Readings.{row_at_document}
use Rattle.ix_cursor.specs.Cursors.{remaining}
use Rattle.ix_search.specs.Walking.{AreOneToOne, AreScoresBefore}
use Rattle.ix_search.proofs.scoring.score_rows.Given as goal

abbrev pub invariant-documents : goal.invariant-documents
invariant-documents g l = record {
  reads : ReadsKeeper (g.K.Keeper.view l.fn.keeper) (g.K.Keeper.view l.keeper) None;
  at_most : RisesBy no_looks (g.K.Keeper.view l.fn.keeper).counts (g.K.Keeper.view l.keeper).counts;
  low : l.from ≤ 2 ^ 32;
  left : (d : ℕ) → l.from ≤ d → d < 2 ^ 32 → remaining l.cursor d ≡ remaining l.fn.cursor d;
  scores : (m : Content) → (g.K.Keeper.view l.fn.keeper).content ≡ Some m → AreOneToOne (row_at_document (at m) l.index) → AreScoresBefore (row_at_document (at m) l.index) (remaining l.fn.cursor) l.from l.scores;
}

abbrev pub decreases-documents : goal.decreases-documents
decreases-documents g l = 2 ^ 32 - l.from
