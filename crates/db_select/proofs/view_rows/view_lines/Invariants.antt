use Rattle.std.proofs.Common.{◌≡◌, Some, None, take}
use Rattle.std.specs.List.{flat_map}
use Rattle.ct_keep.specs.Content.{Content}
use Rattle.ct_keep.specs.KeeperViews.{ReadsKeeper}
use Rattle.db_state.specs.States.{StoreState, StandsForState}
use Rattle.db_select.specs.ViewRows.{text_at}
use Rattle.db_select.proofs.view_rows.view_lines.Given as goal

abbrev pub invariant-loop-name : goal.invariant-loop-name
invariant-loop-name g l = record {
  reads : ReadsKeeper (g.K.Keeper.view l.fn.keeper) (g.K.Keeper.view l.keeper) None;
  lines : (m : StoreState) (c : Content) → (g.K.Keeper.view l.fn.keeper).content ≡ Some c → StandsForState c m → l.lines.items ≡ flat_map (text_at l.view m.indexes) (take l.name-index l.names);
}
