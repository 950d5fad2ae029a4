use Rattle.std.proofs.Common.{◌≡◌, None, Some, map, take}
use Rattle.std.specs.FinMap.{get}
use Rattle.ct_keep.specs.Content.{Content}
use Rattle.ct_keep.specs.KeeperViews.{ReadsKeeper}
use Rattle.ct_entry.specs.Keys.{at}
use Rattle.ct_entry.specs.Changes.{spell}
use Rattle.cat_index.specs.Sees.{AreThere}
use Rattle.ix_indexes.specs.Noting.{AllDrop, AreHeld, noted_indexes}
use Rattle.tb_table.specs.Tables.{Table}
use Rattle.db_state.specs.States.{StoreState, StandsForState}
use Rattle.db_state.specs.Shapes.{AreStoreChanges}
use Rattle.db_change.specs.Deleting.{gone_rows_changes}
use Rattle.db_change.proofs.deleting.rows_changes.Given as goal

abbrev pub invariant-loop-row : goal.invariant-loop-row
invariant-loop-row g l = record {
  reads : ReadsKeeper (g.K.Keeper.view l.fn.keeper) (g.K.Keeper.view l.keeper) None;
  changes : (m : StoreState) (c : Content) (x : Table) → (g.K.Keeper.view l.fn.keeper).content ≡ Some c → StandsForState c m → get m.tables l.table ≡ Some x → x.columns ≡ l.columns → AreThere x l.rows → AreHeld c (noted_indexes l.indexes)
      → l.batch ≡ spell (gone_rows_changes (at c) m.tables l.table l.columns (noted_indexes l.indexes) (map (λ row. row.0) (take l.row-index l.rows)));
  drops : (c : Content) → (g.K.Keeper.view l.fn.keeper).content ≡ Some c → AllDrop l.batch;
  shaped : AreStoreChanges l.batch;
}
