use Rattle.std.proofs.Common.{◌≡◌, ◌+◌, ◌*◌, ℕ, true, List, length, drop, Some, None}
use Rattle.std.specs.FinMap.{get}
use Rattle.ct_keep.specs.Content.{Content}
use Rattle.ct_keep.specs.KeeperViews.{ReadsKeeper}
use Rattle.tb_table.specs.Tables.{Table}
use Rattle.db_state.specs.States.{StoreState, StandsForState}
use Rattle.db_rows.specs.Meeting.{key_meets}
use Rattle.db_rows.specs.Texts.{HasFewerLeft, RisesLeaving, conds_among, shown_places, texts_alone}
use Rattle.db_select.specs.Hits.{HoldOwn, hits_of, rows_left}
use Rattle.db_select.proofs.HitSteps.{AreMet}
use Rattle.db_select.proofs.hits.met_hits.Given as goal

abbrev pub invariant-loop-hit : goal.invariant-loop-hit
invariant-loop-hit g l = record {
  reads : ReadsKeeper (g.K.Keeper.view l.fn.keeper) (g.K.Keeper.view l.keeper) None;
  met : (m : StoreState) (c : Content) (x : Table) → (g.K.Keeper.view l.fn.keeper).content ≡ Some c → StandsForState c m → get m.tables l.table ≡ Some x → x.columns ≡ l.columns
      → AreMet (λ h. key_meets x l.conds h.key.0) l.found l.hit-index (hits_of l.rows.items);
  own : (m : StoreState) (c : Content) → (g.K.Keeper.view l.fn.keeper).content ≡ Some c → StandsForState c m → HoldOwn m.tables l.table l.rows.items;
  once : (places : List ℕ) → HasFewerLeft (shown_places l.shown) places → conds_among places l.columns l.conds ≡ true
      → RisesLeaving (texts_alone (length l.found * length places)) (rows_left (shown_places l.shown) l.rows.items + length (drop l.hit-index l.found) * length places)
      (g.K.Keeper.view l.fn.keeper).counts (g.K.Keeper.view l.keeper).counts;
}
