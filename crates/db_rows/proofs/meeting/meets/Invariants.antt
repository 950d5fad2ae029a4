use Rattle.std.proofs.Common.{◌≡◌, ℕ, true, List, drop, Some, None}
use Rattle.ct_keep.specs.Content.{Content}
use Rattle.ct_keep.specs.KeeperViews.{ReadsKeeper}
use Rattle.db_state.specs.States.{StoreState, StandsForState}
use Rattle.db_rows.specs.Values.{row_values}
use Rattle.db_rows.specs.Reading.{IsReadOf, text_conds}
use Rattle.db_rows.specs.Texts.{RisesLeaving, conds_among, texts_alone, texts_left}
use Rattle.db_rows.proofs.LookSteps.{LooksSoFar}
use Rattle.db_rows.proofs.MeetSteps.{AreMet}
use Rattle.db_rows.proofs.meeting.meets.Given as goal

abbrev pub invariant-loop-cond : goal.invariant-loop-cond
invariant-loop-cond g l = record {
  reads : ReadsKeeper (g.K.Keeper.view l.fn.keeper) (g.K.Keeper.view l.keeper) None;
  looks : LooksSoFar (text_conds l.columns (drop l.cond-index l.conds)) (text_conds l.columns l.conds) (g.K.Keeper.view l.fn.keeper).counts (g.K.Keeper.view l.keeper).counts;
  once : (places : List ℕ) → conds_among places l.columns l.conds ≡ true
      → RisesLeaving (texts_alone (texts_left places l.fn.read)) (texts_left places l.read) (g.K.Keeper.view l.fn.keeper).counts (g.K.Keeper.view l.keeper).counts;
  met : (m : StoreState) (c : Content) → (g.K.Keeper.view l.fn.keeper).content ≡ Some c → StandsForState c m → IsReadOf (row_values m.tables l.table l.row.0) l.fn.read
      → AreMet l.columns l.conds l.row.0 (row_values m.tables l.table l.row.0) l.cond-index l.read;
}
