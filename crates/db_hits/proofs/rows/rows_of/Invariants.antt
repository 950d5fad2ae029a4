use Rattle.std.proofs.Common.{◌≡◌, ◌*◌, ℕ, List, length, map, take, true, Some, None}
use Rattle.std.specs.List.{list_all}
use Rattle.ct_keep.specs.Content.{Content}
use Rattle.ct_keep.specs.KeeperViews.{ReadsKeeper}
use Rattle.ct_keep.specs.Looks.{RisesBy}
use Rattle.rs_result.specs.Comparing.{ranked}
use Rattle.db_state.specs.States.{StoreState, StandsForState}
use Rattle.db_rows.specs.Texts.{reads_among, texts_alone}
use Rattle.db_hits.specs.Rows.{rank_read}
use Rattle.db_hits.proofs.rows.rows_of.Given as goal

abbrev pub invariant-loop-hit : goal.invariant-loop-hit
invariant-loop-hit g l = record {
  reads : ReadsKeeper (g.K.Keeper.view l.fn.keeper) (g.K.Keeper.view l.keeper) None;
  rows : (m : StoreState) (c : Content) → (g.K.Keeper.view l.fn.keeper).content ≡ Some c → StandsForState c m
      → map ranked l.rows.items ≡ map (rank_read m.tables l.table l.sources) (take l.hit-index l.hits);
  within : (places : List ℕ) → list_all (reads_among places) l.sources ≡ true
      → RisesBy (texts_alone (l.hit-index * length places)) (g.K.Keeper.view l.fn.keeper).counts (g.K.Keeper.view l.keeper).counts;
}
