use Rattle.std.proofs.Common.{◌≡◌, ◌++◌, Some, None, length, map}
use Rattle.ct_keep.specs.Content.{Content}
use Rattle.ct_keep.specs.KeeperViews.{ReadsKeeper}
use Rattle.ct_entry.specs.Changes.{spell}
use Rattle.ct_entry.specs.Keys.{at, HasKeysOnly}
use Rattle.ct_entry.specs.Shapes.{AreShaped}
use Rattle.tb_table.specs.Rules.{AreTables}
use Rattle.tb_table.specs.Spelling.{TablesStand}
use Rattle.tb_table.specs.Tables.{Tables}
use Rattle.ix_kinds.specs.Rows.{table_at}
use Rattle.cat_index.specs.Changes.{rows_come}
use Rattle.cat_index.specs.Kind.{as_index}
use Rattle.cat_index.specs.Sees.{AreThere}
use Rattle.cat_index.specs.Shapes.{HasCatalogueValue}
use Rattle.cat_index.proofs.creating.put_rows.Given as goal

abbrev pub invariant-each : goal.invariant-each
invariant-each g l = record {
  reads : ReadsKeeper (g.K.Keeper.view l.fn.keeper) (g.K.Keeper.view l.keeper) None;
  changes : (m : Content) (ts : Tables) → (g.K.Keeper.view l.fn.keeper).content ≡ Some m → HasKeysOnly m → TablesStand (at m) ts → AreTables ts
      → (table_at ts l.catalogue.target.table).columns ≡ l.columns → AreThere (table_at ts l.catalogue.target.table) l.rows
      → AreThere (table_at ts l.catalogue.target.table) l.rest
      × (l.changes ++ spell (rows_come l.index (as_index l.columns l.catalogue) (table_at ts l.catalogue.target.table) (map (λ r. r.0) l.rest))
      ≡ l.fn.changes ++ spell (rows_come l.index (as_index l.columns l.catalogue) (table_at ts l.catalogue.target.table) (map (λ r. r.0) l.rows)));
  shaped : AreShaped HasCatalogueValue l.fn.changes → AreShaped HasCatalogueValue l.changes;
}

abbrev pub decreases-each : goal.decreases-each
decreases-each g l = length l.rest
