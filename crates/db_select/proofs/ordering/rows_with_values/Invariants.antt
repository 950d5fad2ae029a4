use Rattle.std.proofs.Common.{◌≡◌, ◌+◌, ℕ, List, true, Some, None}
use Rattle.ct_keep.specs.Content.{Content}
use Rattle.ct_keep.specs.KeeperViews.{ReadsKeeper}
use Rattle.db_state.specs.States.{StoreState, StandsForState}
use Rattle.db_rows.specs.Texts.{RisesLeaving, texts_alone}
use Rattle.db_select.specs.Fields.{fields_among}
use Rattle.db_select.specs.Hits.{rows_left}
use Rattle.db_select.specs.Ranking.{ranked_left}
use Rattle.db_select.proofs.OrderSteps.{HaveValues}
use Rattle.db_select.proofs.ordering.rows_with_values.Given as goal

abbrev pub invariant-loop-row : goal.invariant-loop-row
invariant-loop-row g l = record {
  reads : ReadsKeeper (g.K.Keeper.view l.fn.keeper) (g.K.Keeper.view l.keeper) None;
  rows : (m : StoreState) (c : Content) → (g.K.Keeper.view l.fn.keeper).content ≡ Some c → StandsForState c m → HaveValues m.tables l.table l.sources l.fn.rows.items l.row-iterator.rest.items l.ranked.items;
  within : (places : List ℕ) → fields_among places l.sources ≡ true
      → RisesLeaving (texts_alone (rows_left places l.fn.rows.items)) (ranked_left places l.ranked.items + rows_left places l.row-iterator.rest.items)
      (g.K.Keeper.view l.fn.keeper).counts (g.K.Keeper.view l.keeper).counts;
}
