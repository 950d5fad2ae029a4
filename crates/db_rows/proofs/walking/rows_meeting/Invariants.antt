use Rattle.std.proofs.Common.{◌≡◌, Some, None, map}
use Rattle.std.specs.FinMap.{get, entries}
use Rattle.ct_keep.specs.Content.{Content}
use Rattle.ct_keep.specs.KeeperViews.{ReadsKeeper}
use Rattle.ct_entry.specs.Listings.{number_of}
use Rattle.ct_entry.specs.laws.Rows.{IsPlace}
use Rattle.tb_table.specs.Tables.{Table}
use Rattle.db_state.specs.States.{StoreState, StandsForState}
use Rattle.db_rows.specs.Walking.{AreOwn, met_keys}
use Rattle.db_rows.proofs.Walks.{IsWalked}
use Rattle.db_rows.proofs.TableWalks.{entry_meets}
use Rattle.db_rows.proofs.walking.rows_meeting.Given as goal

abbrev pub invariant-steps : goal.invariant-steps
invariant-steps g l = record {
  reads : ReadsKeeper (g.K.Keeper.view l.fn.keeper) (g.K.Keeper.view l.keeper) None;
  place : (m : StoreState) (c : Content) (x : Table) → (g.K.Keeper.view l.fn.keeper).content ≡ Some c → StandsForState c m → get m.tables l.table ≡ Some x → IsPlace (number_of l.after);
  walked : (m : StoreState) (c : Content) (x : Table) → (g.K.Keeper.view l.fn.keeper).content ≡ Some c → StandsForState c m → get m.tables l.table ≡ Some x → x.columns ≡ l.columns
      → IsWalked (entry_meets x l.conds) (entries x.rows) (number_of l.after) (map (λ row. row.0) (met_keys l.rows.items));
  own : (m : StoreState) (c : Content) → (g.K.Keeper.view l.fn.keeper).content ≡ Some c → StandsForState c m → AreOwn m.tables l.table l.rows.items;
}
