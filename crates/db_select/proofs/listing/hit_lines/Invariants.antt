use Rattle.std.proofs.Common.{◌≡◌, ℕ, List, true, Some, None}
use Rattle.ct_keep.specs.Content.{Content}
use Rattle.ct_keep.specs.KeeperViews.{ReadsKeeper}
use Rattle.db_state.specs.States.{StoreState, StandsForState}
use Rattle.db_rows.specs.Texts.{RisesLeaving, texts_alone}
use Rattle.db_select.specs.Fields.{fields_among}
use Rattle.db_select.specs.Hits.{HoldOwn, rows_left}
use Rattle.db_select.proofs.LineSteps.{AreWritten}
use Rattle.db_select.proofs.listing.hit_lines.Given as goal

abbrev pub invariant-loop-row : goal.invariant-loop-row
invariant-loop-row g l = record {
  reads : ReadsKeeper (g.K.Keeper.view l.fn.keeper) (g.K.Keeper.view l.keeper) None;
  lines : (m : StoreState) (c : Content) → (g.K.Keeper.view l.fn.keeper).content ≡ Some c → StandsForState c m → HoldOwn m.tables l.table l.fn.rows.items
      → AreWritten m.tables l.table l.sources l.fn.rows.items l.row-iterator.rest.items l.lines.items;
  looks : (places : List ℕ) → fields_among places l.sources ≡ true
      → RisesLeaving (texts_alone (rows_left places l.fn.rows.items)) (rows_left places l.row-iterator.rest.items) (g.K.Keeper.view l.fn.keeper).counts (g.K.Keeper.view l.keeper).counts;
}
