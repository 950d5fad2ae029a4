use Rattle.std.proofs.Common.{◌≡◌, ℕ, List, true, Some, None}
use Rattle.ct_keep.specs.Content.{Content}
use Rattle.ct_keep.specs.KeeperViews.{ReadsKeeper}
use Rattle.db_state.specs.States.{StoreState, StandsForState}
use Rattle.db_rows.specs.Reading.{IsReadOf}
use Rattle.db_rows.specs.Texts.{RisesLeaving, texts_alone, texts_left}
use Rattle.db_rows.specs.Values.{row_values}
use Rattle.db_select.specs.Fields.{fields_among}
use Rattle.db_select.proofs.FieldSteps.{HasValues}
use Rattle.db_select.proofs.fields.field_values.Given as goal

abbrev pub invariant-loop-source : goal.invariant-loop-source
invariant-loop-source g l = record {
  reads : ReadsKeeper (g.K.Keeper.view l.fn.keeper) (g.K.Keeper.view l.keeper) None;
  row : (m : StoreState) (c : Content) → (g.K.Keeper.view l.fn.keeper).content ≡ Some c → StandsForState c m → IsReadOf (row_values m.tables l.table l.hit.key.0) l.fn.read
      → HasValues l.hit (row_values m.tables l.table l.hit.key.0) l.sources l.source-index l.read l.values.items;
  once : (places : List ℕ) → fields_among places l.sources ≡ true
      → RisesLeaving (texts_alone (texts_left places l.fn.read)) (texts_left places l.read) (g.K.Keeper.view l.fn.keeper).counts (g.K.Keeper.view l.keeper).counts;
}
