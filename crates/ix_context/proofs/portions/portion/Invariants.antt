use Rattle.std.proofs.Common.{◌≡◌, ◌<◌, Some, None, length, map, take}
use Rattle.ct_keep.specs.Content.{Content}
use Rattle.ct_keep.specs.KeeperViews.{ReadsKeeper}
use Rattle.tb_table.specs.Tables.{Tables}
use Rattle.ix_context.specs.Indexes.{target_text}
use Rattle.ix_context.specs.GatheringPortions.{texts_of}
use Rattle.ix_context.specs.Contents.{HoldsTables}
use Rattle.ix_context.proofs.portions.portion.Given as goal

abbrev pub invariant-loop-row : goal.invariant-loop-row
invariant-loop-row g l = record {
  reads : ReadsKeeper (g.K.Keeper.view l.fn.keeper) (g.K.Keeper.view l.keeper) None;
  count : length l.texts.items ≡ l.row-index;
  some : 0 < l.bytes → 0 < l.row-index;
  texts : (m : Content) (ts : Tables) → (g.K.Keeper.view l.fn.keeper).content ≡ Some m → HoldsTables m ts
      → l.texts.items ≡ texts_of (target_text ts l.target) (map (λ r. r.0) (take l.row-index l.rows));
}
