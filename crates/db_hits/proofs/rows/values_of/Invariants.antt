use Rattle.std.proofs.Common.{◌≡◌, ℕ, List, length, true, Some, None}
use Rattle.std.specs.List.{list_all}
use Rattle.ct_keep.specs.Content.{Content}
use Rattle.ct_keep.specs.KeeperViews.{ReadsKeeper}
use Rattle.db_state.specs.States.{StoreState, StandsForState}
use Rattle.db_rows.specs.Sources.{source_value}
use Rattle.db_rows.specs.Texts.{RisesLeaving, reads_among, texts_alone, texts_left}
use Rattle.db_rows.specs.Values.{row_values}
use Rattle.db_hits.proofs.ValueSteps.{HasValues}
use Rattle.db_hits.proofs.rows.values_of.Given as goal

abbrev pub invariant-loop-source : goal.invariant-loop-source
invariant-loop-source g l = record {
  reads : ReadsKeeper (g.K.Keeper.view l.fn.keeper) (g.K.Keeper.view l.keeper) None;
  row : (m : StoreState) (c : Content) → (g.K.Keeper.view l.fn.keeper).content ≡ Some c → StandsForState c m
      → HasValues (source_value l.row.0 (row_values m.tables l.table l.row.0)) (row_values m.tables l.table l.row.0) l.sources l.source-index l.read l.values.items;
  within : (places : List ℕ) → list_all (reads_among places) l.sources ≡ true
      → RisesLeaving (texts_alone (length places)) (texts_left places l.read) (g.K.Keeper.view l.fn.keeper).counts (g.K.Keeper.view l.keeper).counts;
}
